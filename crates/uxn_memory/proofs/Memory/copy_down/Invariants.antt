use Rattle.std.proofs.Common.{◌≡◌}
use Rattle.uxn_memory.specs.Bytes.{copied_down}
use Rattle.uxn_memory.proofs.Memory.copy_down.Given as goal

abbrev pub invariant-loop-i : goal.invariant-loop-i
invariant-loop-i l = copied_down l.self l.i l.from_bank l.from l.to_bank l.to ≡ copied_down l.fn.self l.length l.from_bank l.from l.to_bank l.to
