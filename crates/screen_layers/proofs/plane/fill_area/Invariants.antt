use Rattle.std.proofs.Common.{◌<◌, All}
use Rattle.screen_layers.specs.Drawings.{painted, fill}
use Rattle.screen_layers.specs.Layers.{PaintedOver}
use Rattle.screen_layers.proofs.plane.fill_area.Given as goal

abbrev pub invariant-loop-y : goal.invariant-loop-y
invariant-loop-y l =
    record {
      painted : PaintedOver l.fn.pixels l.pixels l.size.width l.size.height (painted (fill l.area.left l.area.right l.area.top l.y l.colour));
      colours : l.colour < 4 → All (λ value. value < 4) l.fn.pixels → All (λ value. value < 4) l.pixels;
    }
