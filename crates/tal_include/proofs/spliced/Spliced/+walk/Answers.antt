use Rattle.std.proofs.Common.{refl, length, Vec, Global}
use Rattle.std.proofs.lemmas.Result.{err_from_is_err_and}
use Rattle.uxn_io_traits.specs.ByteList.{ByteList}
use Rattle.tal_words.specs.declared.span.Word.{Word}
use Rattle.uxn_io_traits.specs.AskingLaws.{leads-start, through-end}
use Rattle.tal_include.specs.Splice.{at_word, walk}
use Rattle.tal_include.proofs.WalkLemmas.{no-path, no-bytes, no-words, all-words, include-more, include-stop, plain-more, plain-stop}
use Rattle.tal_include.proofs.spliced.Spliced.+walk.Goals as goal
use Rattle.tal_include.proofs.spliced.Spliced.+walk.Goals.{add_words-then-is_include, add_words-else-is_include}

pub add_include-returns-in_err-path : goal.add_include-returns-in_err-path
add_include-returns-in_err-path g t c =
    let p = err_from_is_err_and c.from_residual.result c.from_residual.ensures.1 in
    rw (p.1, p.2) (no-path c.args.deeper c.args.at.now.origin c.args.at.now.text.now c.args.self.now _ _
    c.in_err-path.field-0.0 c.in_err-path.ensures.value)

pub add_include-returns-in_err-bytes : goal.add_include-returns-in_err-bytes
add_include-returns-in_err-bytes g t c =
    let p = err_from_is_err_and c.from_residual-in_err-bytes.result c.from_residual-in_err-bytes.ensures.1 in
    rw (p.1, p.2)
    (no-bytes c.args.deeper c.args.at.now.origin c.args.at.now.text.now c.args.self.now _ _ c.in_ok-path.path _ c.in_ok-path.ensures.value
    (λ (bytes : ByteList). bytes.list) c.in_err-bytes.field-0.0 c.in_err-bytes.ensures)

pub add_include-returns-in_err-words : goal.add_include-returns-in_err-words
add_include-returns-in_err-words g t c =
    let p = err_from_is_err_and c.from_residual-in_err-words.result c.from_residual-in_err-words.ensures.1 in
    rw (p.1, p.2)
    (no-words c.args.deeper c.args.at.now.origin c.args.at.now.text.now c.args.self.now _ _ c.in_ok-path.path _ c.in_ok-path.ensures.value
    (λ (bytes : ByteList). bytes.list) c.in_ok-bytes.bytes c.in_ok-path.ensures.deep c.in_ok-bytes.ensures
    (λ (words : Vec Word Global). words.items) c.as_slice-source.result.now c.in_err-words.field-0.0
    c.as_slice-source.ensures c.in_err-words.ensures)

pub add_include-returns : goal.add_include-returns
add_include-returns g t c =
    all-words c.args.deeper c.args.at.now.origin c.args.at.now.text.now c.args.self.now _ _ c.in_ok-path.path _ c.in_ok-path.ensures.value
    (λ (bytes : ByteList). bytes.list) c.in_ok-bytes.bytes c.in_ok-path.ensures.deep c.in_ok-bytes.ensures
    c.as_slice-source.result.now c.in_ok-words.words.items c.deref.result.now c.next_path.new.self _ c.add_words.result
    c.as_slice-source.ensures c.in_ok-words.ensures c.in_ok-path.ensures.added c.deref.ensures.value c.add_words.ensures

pub add_words-loop-word-init : goal.add_words-loop-word-init
add_words-loop-word-init g t c = rw c.paths-number.ensures (leads-start _ _)

pub add_words-returns-in_err-added : goal.add_words-returns-in_err-added
add_words-returns-in_err-added g t c =
    let p = err_from_is_err_and c.from_residual.result c.from_residual.ensures.1 in
    rw (p.1, p.2) (elim c.if-is_include.branch [
      | add_words-then-is_include w ↦
          rw w.tree-is
          (include-stop _ c.args.deeper c.args.file.now.path.now c.args.file.now.source.now c.text-text.result.now
          c.args.file.now.words.now c.loop-word.word-index
          (length c.paths-number.result.now) c.loop-word.self _ _ c.loop-word.invariant c.loop-word-test.true c.text-text.ensures
          (λ _. w.add_include-added.new.self) _ w.if-is_include.ensures _ c.in_err-added.field-0.0 (rw (← w.added-is, c.in_err-added.was) at w.add_include-added.ensures))
      | add_words-else-is_include w ↦
          rw w.tree-is
          (plain-stop _ c.args.deeper c.args.file.now.path.now c.args.file.now.source.now c.text-text.result.now
          c.args.file.now.words.now c.loop-word.word-index
          (length c.paths-number.result.now) c.loop-word.self _ _ c.loop-word.invariant c.loop-word-test.true c.text-text.ensures
          (λ _. w.add_plain-added.new.self) w.if-is_include.ensures _ c.in_err-added.field-0.0 (rw (← w.added-is, c.in_err-added.was) at w.add_plain-added.ensures))
    ])

pub add_words-loop-word-preserved : goal.add_words-loop-word-preserved
add_words-loop-word-preserved g t c =
    elim c.if-is_include.branch [
      | add_words-then-is_include w ↦
          rw (w.self-is, w.tree-is)
          (include-more _ c.args.deeper c.args.file.now.path.now c.args.file.now.source.now c.text-text.result.now
          c.args.file.now.words.now c.loop-word.word-index
          (length c.paths-number.result.now) c.loop-word.self _ _ c.loop-word.invariant c.loop-word-test.true c.text-text.ensures
          (λ _. w.add_include-added.new.self) _ w.if-is_include.ensures (rw (← w.added-is, c.in_ok-added.was) at w.add_include-added.ensures))
      | add_words-else-is_include w ↦
          rw (w.self-is, w.tree-is)
          (plain-more _ c.args.deeper c.args.file.now.path.now c.args.file.now.source.now c.text-text.result.now
          c.args.file.now.words.now c.loop-word.word-index
          (length c.paths-number.result.now) c.loop-word.self _ _ c.loop-word.invariant c.loop-word-test.true c.text-text.ensures
          (λ _. w.add_plain-added.new.self) w.if-is_include.ensures (rw (← w.added-is, c.in_ok-added.was) at w.add_plain-added.ensures))
    ]

pub add_words-returns : goal.add_words-returns
add_words-returns g t c =
    through-end
    (at_word c.args.deeper (walk c.args.deeper) c.args.file.now.path.now c.args.file.now.source.now (length c.paths-number.result.now))
    _ c.args.file.now.words.now _ _ _ _ c.loop-word.invariant _ tt c.loop-word-test.false refl
