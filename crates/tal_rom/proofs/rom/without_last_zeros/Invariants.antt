use Rattle.tal_rom.proofs.Common.{◌≡◌, ◌≤◌, length, trimmed}
use Rattle.tal_rom.proofs.rom.without_last_zeros.Given as goal

abbrev pub invariant-loop-prefix : goal.invariant-loop-prefix
invariant-loop-prefix l = record {
  shorter : length l.rest ≤ length l.bytes;
  same : trimmed l.rest ≡ trimmed l.bytes;
}

abbrev pub decreases-loop-prefix : goal.decreases-loop-prefix
decreases-loop-prefix l = length l.rest
