use Rattle.std.proofs.Common.{◌≡◌, ◌*◌, replicate}
use Rattle.tal_rom.proofs.patch.zeros.Given as goal

abbrev pub invariant-loop : goal.invariant-loop
invariant-loop l = l.memory.items ≡ replicate (256 * l.counter) 0
