use Rattle.tal_rom.proofs.Checking.{IsCheckedSo}
use Rattle.tal_rom.proofs.references.check_references.Given as goal

abbrev pub invariant-loop-word : goal.invariant-loop-word
invariant-loop-word l = IsCheckedSo l.source l.placed.labels l.words l.word-index l.scope
