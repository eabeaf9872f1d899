use Rattle.std.proofs.Common.{Some, ap, sym, ◌∙◌, ◌≡◌, length, arith}
use Rattle.tal_words.specs.Source.{tokens_below}
use Rattle.tal_words.proofs.Cut.{no_token, pass_start, step_within, step_opener, step_word, step_long, step_stray, step_open, step_end}
use Rattle.tal_words.proofs.Tokens.{start_line, start_column, no_tokens, all_passed, tokens_bound, token_there, tokens_one_more}
use Rattle.tal_words.proofs.cutting.outside_comments.Goals as goal
use Rattle.tal_words.proofs.cutting.outside_comments.Goals.{then-depth-gt0, else-depth-gt0+then-begins}
use Rattle.tal_words.proofs.cutting.outside_comments.Goals.{else-depth-gt0+else-begins+else-text-gt-WORD_LIMIT+else-begins-2+in_ok-push}

pub past_blanks-place-requires-clause-line : goal.past_blanks-place-requires-clause-line
past_blanks-place-requires-clause-line c = sym (start_line c.args.source.now)

pub past_blanks-place-requires-clause-column : goal.past_blanks-place-requires-clause-column
past_blanks-place-requires-clause-column c = sym (start_column c.args.source.now)

pub loop-place-init : goal.loop-place-init
loop-place-init c =
    let source = c.args.source.now in
    let none : length (tokens_below source c.past_blanks-place.result.at) ≡ 0 = ap length (c.past_blanks-place.ensures.tokens ∙ no_tokens source) in
    record {
      within = c.past_blanks-place.ensures.within;
      line = c.past_blanks-place.ensures.line;
      column = c.past_blanks-place.ensures.column;
      token = c.past_blanks-place.ensures.token;
      passes = rw (none, c.new-words.ensures.items) (pass_start _ _ _);
    }

pub depth_after-depth-requires-clause-below : goal.depth_after-depth-requires-clause-below
depth_after-depth-requires-clause-below c =
    omega (arith, c.requires.short, c.loop-place-test.true, c.loop-place.invariant.passes.bound, tokens_bound c.args.source.now c.loop-place.place.at)

pub returns-then-text-gt-WORD_LIMIT : goal.returns-then-text-gt-WORD_LIMIT
returns-then-text-gt-WORD_LIMIT c =
    let there = token_there c.args.source.now c.loop-place.place.at no_token c.loop-place-test.true (c.loop-place.invariant.token c.loop-place-test.true) in
    step_long _ _ _ _ _ _ _ _ there.0 (there.1 ∙ sym c.token_at-token.ensures.value) c.text-text.ensures c.loop-place.invariant.passes
    c.if-depth-gt0.false _ c.begins.ensures c.if-begins.false c.if-text-gt-WORD_LIMIT.true
    ∙ ap Some (sym c.new.ensures)

pub returns-then-begins-2 : goal.returns-then-begins-2
returns-then-begins-2 c =
    let there = token_there c.args.source.now c.loop-place.place.at no_token c.loop-place-test.true (c.loop-place.invariant.token c.loop-place-test.true) in
    step_stray _ _ _ _ _ _ _ _ there.0 (there.1 ∙ sym c.token_at-token.ensures.value) c.text-text.ensures c.loop-place.invariant.passes
    c.if-depth-gt0.false _ c.begins.ensures c.if-begins.false _ c.if-text-gt-WORD_LIMIT.false c.begins-else-begins.ensures c.if-begins-2.true
    ∙ ap Some (sym c.new-then-begins-2.ensures)

pub loop-place-smaller : goal.loop-place-smaller
loop-place-smaller c =
    omega (
      arith,
      c.loop-place-test.true,
      c.past_token.ensures.later,
      c.past_token.ensures.within,
      c.past_blanks-place-in-loop-place.ensures.later,
      c.past_blanks-place-in-loop-place.ensures.within,
    )

pub loop-place-preserved : goal.loop-place-preserved
loop-place-preserved c =
    let source = c.args.source.now in
    let there = token_there source c.loop-place.place.at no_token c.loop-place-test.true (c.loop-place.invariant.token c.loop-place-test.true) in
    let is_token = there.1 ∙ sym c.token_at-token.ensures.value in
    let passed = c.loop-place.invariant.passes in
    let more = tokens_one_more source c.loop-place.place.at _ _ c.past_blanks-place-in-loop-place.ensures.tokens c.past_token.ensures.tokens in
    record {
      within = c.past_blanks-place-in-loop-place.ensures.within;
      line = c.past_blanks-place-in-loop-place.ensures.line;
      column = c.past_blanks-place-in-loop-place.ensures.column;
      token = c.past_blanks-place-in-loop-place.ensures.token;
      passes =
          rw more
          elim c.if-depth-gt0.branch [
            | then-depth-gt0 w ↦
                rw (w.words-is, w.depth-is, w.opener-is)
                (step_within _ _ _ _ _ _ _ _ there.0 is_token c.text-text.ensures passed w.if-depth-gt0.true _
                w.depth_after-depth.ensures.value w.depth_after-depth.ensures.bound)
            | else-depth-gt0+then-begins w ↦
                rw (w.words-is, w.depth-is, w.opener-is)
                (step_opener _ _ _ _ _ _ _ _ there.0 is_token c.text-text.ensures passed w.if-depth-gt0.false _ w.begins.ensures w.if-begins.true)
            | else-depth-gt0+else-begins+else-text-gt-WORD_LIMIT+else-begins-2+in_ok-push w ↦
                rw (w.words-is, w.in_ok-push.ensures.items, w.depth-is, w.opener-is)
                (step_word _ _ _ _ _ _ _ _ there.0 is_token c.text-text.ensures passed w.if-depth-gt0.false _ w.begins.ensures
                w.if-begins.false _ w.if-text-gt-WORD_LIMIT.false w.begins-else-begins.ensures w.if-begins-2.false)
          ];
    }

pub returns-then-depth-gt0-2 : goal.returns-then-depth-gt0-2
returns-then-depth-gt0-2 c =
    step_open _ _ _ _ _ _ (all_passed _ _ c.loop-place-test.false c.loop-place.invariant.within) c.loop-place.invariant.passes c.if-depth-gt0-2.true ∙ ap Some (sym c.new-then-depth-gt0-2.ensures)

pub returns : goal.returns
returns c = step_end _ _ _ _ _ _ (all_passed _ _ c.loop-place-test.false c.loop-place.invariant.within) c.loop-place.invariant.passes c.if-depth-gt0-2.false
