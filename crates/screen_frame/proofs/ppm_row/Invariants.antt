use Rattle.std.proofs.Common.{◌≡◌, ◌*◌, ◌-◌, ◌≤◌, length, take}
use Rattle.screen_frame.specs.Ppm.{row_bytes}
use Rattle.screen_frame.proofs.ppm_row.Given as goal

abbrev pub decreases-loop-i : goal.decreases-loop-i
decreases-loop-i l = length l.row - l.i

abbrev pub invariant-loop-i : goal.invariant-loop-i
invariant-loop-i l =
    record {
      within : l.i ≤ length l.row;
      prefix : take (3 * l.i) l.into ≡ row_bytes l.palette.colours (take l.i l.row);
    }

abbrev pub invariant-loop-at : goal.invariant-loop-at
invariant-loop-at l = take (3 * l.at) l.into ≡ row_bytes l.palette.colours (take l.at l.row)
