use Rattle.std.proofs.Common.{◌≡◌}
use Rattle.uxn_memory.specs.Bytes.{copied_up}
use Rattle.uxn_memory.proofs.Memory.copy_up.Given as goal

abbrev pub invariant-loop-i : goal.invariant-loop-i
invariant-loop-i l = l.self ≡ copied_up l.fn.self l.i l.from_bank l.from l.to_bank l.to
