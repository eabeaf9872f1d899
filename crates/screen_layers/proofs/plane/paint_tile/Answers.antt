use Rattle.std.proofs.Common.{◌≡◌, arith, refl}
use Rattle.screen_layers.specs.Drawings.{tile_inks}
use Rattle.screen_layers.proofs.TileLemmas.{rows-more, rows-off, rows-end, rows-colours}
use Rattle.screen_layers.proofs.plane.paint_tile.Goals as goal
use Rattle.screen_layers.proofs.plane.paint_tile.Goals.{then-y-size, else-y-size}

pub loop-row-preserved : goal.loop-row-preserved
loop-row-preserved c =
    let done = c.loop-row.invariant.painted in
    elim c.if-y-size.branch [
      | then-y-size w ↦
          let within = w.start-start.ensures.within w.if-y-size.true in
          rw w.pixels-is record {
            painted = rows-more c.args.pixels.now c.loop-row.pixels w.paint_row.new.row c.args.size.width c.args.size.height c.args.place.x c.args.place.y (tile_inks c.args.memory.now c.args.place.addr c.of-look.result) c.loop-row.row _ _ _
                (omega (arith, done.count)) (omega arith) c.loop-row-test.true refl (omega arith) (omega arith) (omega arith) w.paint_row.auto.row
                (rw w.row_bytes-bytes.ensures at w.paint_row.ensures.pixels) done;
            colours = λ each. rows-colours c.loop-row.pixels w.paint_row.new.row _ _ w.paint_row.ensures.colours (c.loop-row.invariant.colours each);
          }
      | else-y-size w ↦ rw w.pixels-is record {
        painted = rows-off c.args.pixels.now c.loop-row.pixels c.args.size.width c.args.size.height c.args.place.x c.args.place.y (tile_inks c.args.memory.now c.args.place.addr c.of-look.result)
            c.loop-row.row _ (omega arith) (omega arith) c.loop-row-test.true refl w.if-y-size.false done;
        colours = c.loop-row.invariant.colours;
      }
    ]

pub returns-clause-painted : goal.returns-clause-painted
returns-clause-painted c =
    let whole : c.loop-row.row ≡ 8 = omega arith in
    rows-end c.args.pixels.now c.loop-row.pixels c.args.size.width c.args.size.height c.args.place.x c.args.place.y _ (rw (whole, c.of-look.ensures) at c.loop-row.invariant.painted)
