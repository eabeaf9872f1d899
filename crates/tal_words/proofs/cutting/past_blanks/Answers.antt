use Rattle.std.proofs.Common.{refl, ap, sym, ◌∙◌, ◌+◌, arith}
use Rattle.tal_words.proofs.Tokens.{between_more, line_bound, column_bound}
use Rattle.tal_words.proofs.cutting.past_blanks.Goals as goal

pub loop-at-init : goal.loop-at-init
loop-at-init c = record {
  place = refl;
  between = record { lines = c.requires.line; columns = c.requires.column; between = c.requires.between; tokens = refl };
}

pub after-here-requires-clause-line : goal.after-here-requires-clause-line
after-here-requires-clause-line c =
    omega (arith, c.requires.short, c.loop-at.invariant.between.lines, line_bound c.args.source.now c.loop-at.at)

pub after-here-requires-clause-column : goal.after-here-requires-clause-column
after-here-requires-clause-column c =
    omega (arith, c.requires.short, c.loop-at.invariant.between.columns, column_bound c.args.source.now c.loop-at.at)

pub loop-at-preserved : goal.loop-at-preserved
loop-at-preserved c = record {
  place = c.after-here.ensures.at ∙ ap (λ at. at + 1) c.loop-at.invariant.place;
  between =
      between_more _ _ _ _ _ _ _ (omega arith) (sym c.is_blank.ensures ∙ c.if-not-is_blank.false) c.loop-at.invariant.between
      c.after-here.ensures.line c.after-here.ensures.column;
}
