use Rattle.std.proofs.Common.{◌≡◌, drop}
use Rattle.tal_words.specs.Opcodes.{are_modes}
use Rattle.tal_words.proofs.opcode.are_modes.Given as goal

abbrev pub invariant-loop-at : goal.invariant-loop-at
invariant-loop-at l = are_modes (drop l.at l.modes) ≡ are_modes l.modes
