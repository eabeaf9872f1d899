use Rattle.std.proofs.Common.{◌≡◌, ℕ, ◌<◌, ◌≤◌, All, length, slice_index, unwrap_or}
use Rattle.screen_layers.specs.Drawings.{column_ink}
use Rattle.screen_layers.proofs.tile.Look.paint_whole.Given as goal

abbrev pub invariant-loop-column : goal.invariant-loop-column
invariant-loop-column l =
    record {
      count : length l.span ≡ 8;
      painted : (k : ℕ) → k < l.column → slice_index l.span k ≡ unwrap_or (column_ink l.self l.bytes k) (slice_index l.fn.span k);
      kept : (k : ℕ) → l.column ≤ k → slice_index l.span k ≡ slice_index l.fn.span k;
      colours : All (λ colour. colour < 4) l.fn.span → All (λ colour. colour < 4) l.span;
    }
