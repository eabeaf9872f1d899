use Rattle.std.proofs.Common.{◌<◌, All}
use Rattle.screen_layers.specs.Drawings.{column_ink}
use Rattle.screen_layers.proofs.Columns.{ColumnsPainted}
use Rattle.screen_layers.proofs.tile.Look.paint_clipped.Given as goal

abbrev pub invariant-loop-column : goal.invariant-loop-column
invariant-loop-column l =
    record {
      pixels : ColumnsPainted l.fn.row l.row l.x (column_ink l.self l.bytes) l.column;
      colours : All (λ colour. colour < 4) l.fn.row → All (λ colour. colour < 4) l.row;
    }
