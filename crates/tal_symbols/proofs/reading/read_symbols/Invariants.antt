use Rattle.std.proofs.Common.{length}
use Rattle.tal_symbols.proofs.ReadingLemmas.{ReadsOn}
use Rattle.tal_symbols.proofs.reading.read_symbols.Given as goal

abbrev pub invariant-loop-rest : goal.invariant-loop-rest
invariant-loop-rest l = ReadsOn l.bytes l.rest l.labels.items

abbrev pub decreases-loop-rest : goal.decreases-loop-rest
decreases-loop-rest l = length l.rest
