use Rattle.tal_rom.proofs.Common.{◌≡◌, take, overlaid}
use Rattle.tal_rom.proofs.patch.put.Given as goal

abbrev pub invariant-loop-offset : goal.invariant-loop-offset
invariant-loop-offset l = l.memory.items ≡ overlaid l.initial.memory.items l.at (take l.offset l.bytes)
