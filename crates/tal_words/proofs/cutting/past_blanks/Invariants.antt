use Rattle.std.proofs.Common.{◌≡◌}
use Rattle.tal_words.proofs.Tokens.{Between}
use Rattle.tal_words.proofs.cutting.past_blanks.Given as goal

abbrev pub invariant-loop-at : goal.invariant-loop-at
invariant-loop-at l = record {
  place : l.here.at ≡ l.at;
  between : Between l.source l.fn.place.at l.at l.here.line l.here.column;
}
