use Rattle.std.proofs.Common.{arith}
use Rattle.screen_layers.specs.Drawings.{column_ink}
use Rattle.screen_layers.proofs.Columns.{whole-row}
use Rattle.screen_layers.proofs.TileLemmas.{rows-colours}
use Rattle.screen_layers.proofs.tile.Look.paint_row.Goals as goal

pub returns-then-from-row-clause-pixels : goal.returns-then-from-row-clause-pixels
returns-then-from-row-clause-pixels c =
    whole-row c.args.row.now c.paint_whole.new.span c.args.x (column_ink c.args.self.now c.args.bytes) _ _ c.requires (omega arith) c.from-from.ensures (omega arith) c.paint_whole.auto.span c.paint_whole.ensures.pixels

pub returns-then-from-row-clause-colours : goal.returns-then-from-row-clause-colours
returns-then-from-row-clause-colours c = rows-colours c.args.row.now c.paint_whole.new.span _ _ c.paint_whole.ensures.colours
