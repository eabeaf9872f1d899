use Rattle.std.proofs.Common.{◌≡◌, ◌-◌, ◌≤◌, length, take, replicate}
use Rattle.screen_layers.proofs.plane.fill_span.Given as goal

abbrev pub decreases-loop-span : goal.decreases-loop-span
decreases-loop-span l = length l.span - l.from

abbrev pub invariant-loop-span : goal.invariant-loop-span
invariant-loop-span l =
    record {
      within : l.from ≤ length l.span;
      length : length l.span ≡ length l.fn.span;
      filled : take l.from l.span ≡ replicate l.from l.colour;
    }
