use Rattle.std.proofs.Common.{◌≡◌, ◌≢◌, ℕ, ◌-◌, ◌<◌, ◌≤◌, get_or}
use Rattle.tal_rom.proofs.rom.written_len.Given as goal

abbrev pub invariant-loop-at : goal.invariant-loop-at
invariant-loop-at l = record {
  within : l.written ≤ l.at;
  zeros : (k : ℕ) → l.written ≤ k → k < l.at → get_or l.bytes k 0 ≡ 0;
  last : 0 < l.written → get_or l.bytes (l.written - 1) 0 ≢ 0;
}
