use Rattle.std.proofs.Common.{arith}
use Rattle.screen_layers.proofs.FillLemmas.{fill-none, fill-more, fill-whole, fill-colours}
use Rattle.screen_layers.proofs.Rows.{row_order}
use Rattle.screen_layers.proofs.plane.fill_area.Goals as goal

pub loop-y-init : goal.loop-y-init
loop-y-init c = record { painted = fill-none _ _ _ _ _ _ _; colours = λ fits each. each }

pub loop-y-preserved : goal.loop-y-preserved
loop-y-preserved c =
    let size = c.loop-y.invariant.painted.count in
    let within = c.start-start-in-loop-y.ensures.within (omega arith) in
    record {
      painted = fill-more c.args.pixels.now c.loop-y.pixels c.fill_piece.new.piece c.args.size.width c.args.size.height c.args.area.left c.args.area.right c.args.area.top c.loop-y.y c.args.colour _ _
          (omega arith) (omega arith) (omega arith) (omega arith) (omega arith) (omega arith) c.fill_piece.ensures c.loop-y.invariant.painted;
      colours = λ fits each. fill-colours c.loop-y.pixels c.fill_piece.new.piece c.args.colour _ _ fits c.fill_piece.ensures (c.loop-y.invariant.colours fits each);
    }

pub returns-then-area-size-clause-painted : goal.returns-then-area-size-clause-painted
returns-then-area-size-clause-painted c =
    let order = row_order c.args.area.top c.args.area.bottom c.args.size.width c.requires.down.0 in
    rw (c.if-area-eq0.true, c.if-area-size.true)
    (fill-whole c.args.pixels.now c.fill_span.new.span c.args.size.width c.args.size.height c.args.area.top c.args.area.bottom c.args.colour _ _
    (omega (arith, c.start-start.ensures.value, c.start-end.ensures.value)) c.requires.down.0 c.start-start.ensures.value (omega (arith, c.start-start.ensures.value, c.start-end.ensures.value)) c.fill_span.ensures)

pub returns-then-area-size-clause-colours : goal.returns-then-area-size-clause-colours
returns-then-area-size-clause-colours c = λ fits each. fill-colours c.args.pixels.now c.fill_span.new.span c.args.colour _ _ fits c.fill_span.ensures each
