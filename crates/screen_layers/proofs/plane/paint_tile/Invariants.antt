use Rattle.std.proofs.Common.{◌<◌, All}
use Rattle.screen_layers.specs.Drawings.{tile_inks}
use Rattle.screen_layers.specs.Layers.{PaintedOver}
use Rattle.screen_layers.proofs.TileLemmas.{rows_painted}
use Rattle.screen_layers.proofs.plane.paint_tile.Given as goal

abbrev pub invariant-loop-row : goal.invariant-loop-row
invariant-loop-row l =
    record {
      painted : PaintedOver l.fn.pixels l.pixels l.size.width l.size.height (rows_painted l.place.x l.place.y (tile_inks l.memory l.place.addr l.look) l.row);
      colours : All (λ value. value < 4) l.fn.pixels → All (λ value. value < 4) l.pixels;
    }
