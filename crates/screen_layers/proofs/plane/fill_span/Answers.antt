use Rattle.std.proofs.Common.{◌≡◌, ◌+◌, ◌-◌, ◌≤◌, length, arith, ◌∙◌}
use Rattle.screen_layers.proofs.FillLemmas.{filled-more, filled-whole}
use Rattle.screen_layers.proofs.Spans.{length-span, length-put_mid}
use Rattle.screen_layers.proofs.plane.fill_span.Goals as goal

pub returns : goal.returns
returns c =
    let done = c.loop-span.invariant in
    filled-whole c.loop-span.span c.fill_piece-2.new.piece c.loop-span.from _ c.args.colour _ (omega (arith, done.within)) done.length c.fill_piece-2.ensures done.filled

pub loop-span-preserved : goal.loop-span-preserved
loop-span-preserved c =
    let done = c.loop-span.invariant in
    let piece : c.loop-span.from + 2048 - c.loop-span.from ≡ 2048 = omega arith in
    let room : c.loop-span.from + 2048 ≤ length c.loop-span.span = omega arith in
    let size = length-put_mid c.loop-span.from 2048 c.loop-span.span c.fill_piece.new.piece (rw piece at c.fill_piece.auto.piece ∙ length-span c.loop-span.from 2048 c.loop-span.span room) room in
    rw piece record {
      within = omega (arith, size);
      length = size ∙ done.length;
      filled = filled-more c.loop-span.span c.fill_piece.new.piece c.loop-span.from 2048 c.args.colour room (rw piece at c.fill_piece.ensures) done.filled;
    }
