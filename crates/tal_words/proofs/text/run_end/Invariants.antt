use Rattle.std.proofs.Common.{◌≡◌, ◌+◌}
use Rattle.tal_words.specs.Source.{run_length}
use Rattle.tal_words.proofs.text.run_end.Given as goal

abbrev pub invariant-loop-at : goal.invariant-loop-at
invariant-loop-at l = l.from + run_length l.source l.from ≡ l.at + run_length l.source l.at
