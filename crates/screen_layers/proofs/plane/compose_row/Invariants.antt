use Rattle.std.proofs.Common.{◌≡◌, ℕ, ◌<◌, All, slice_index}
use Rattle.screen_frame.specs.Colours.{shown}
use Rattle.screen_layers.proofs.plane.compose_row.Given as goal

abbrev pub invariant-loop-i : goal.invariant-loop-i
invariant-loop-i l =
    record {
      values : (k : ℕ) → k < l.i → slice_index l.into k ≡ shown (slice_index l.foreground k) (slice_index l.background k);
      colours : All (λ colour. colour < 4) l.foreground → All (λ colour. colour < 4) l.background → (k : ℕ) → k < l.i → slice_index l.into k < 4;
    }
