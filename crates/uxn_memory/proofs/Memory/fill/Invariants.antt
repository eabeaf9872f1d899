use Rattle.std.proofs.Common.{◌≡◌}
use Rattle.uxn_memory.specs.Bytes.{filled}
use Rattle.uxn_memory.proofs.Memory.fill.Given as goal

abbrev pub invariant-loop-i : goal.invariant-loop-i
invariant-loop-i l = l.self ≡ filled l.fn.self l.i l.bank l.at l.value
