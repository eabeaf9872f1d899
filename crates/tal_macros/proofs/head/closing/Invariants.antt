use Rattle.tal_macros.proofs.Closing.{Searches}
use Rattle.tal_macros.proofs.head.closing.Given as goal

abbrev pub invariant-loop-index : goal.invariant-loop-index
invariant-loop-index l = Searches l.source l.words l.brace l.index l.opened l.closed l.nested
