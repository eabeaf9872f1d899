use Rattle.uxn_line.proofs.Common.{◌≡◌, ℕ, length, Some, slice_get, Member, InLine, none_turned, line_job}
use Rattle.uxn_line.proofs.line.members_of.Given as goal

abbrev pub invariant-loop-index : goal.invariant-loop-index
invariant-loop-index l = record {
  count : length l.members.items ≡ l.index;
  each : (machine : ℕ) (member : Member) → slice_get l.members.items machine ≡ Some member
      → InLine (line_job l.roms l.script l.budget) none_turned machine member;
}
