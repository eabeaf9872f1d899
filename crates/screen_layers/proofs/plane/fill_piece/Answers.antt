use Rattle.std.proofs.Common.{arith}
use Rattle.std.proofs.lemmas.List.Edits.{fill_more}
use Rattle.screen_layers.proofs.plane.fill_piece.Goals as goal

pub loop-i-preserved : goal.loop-i-preserved
loop-i-preserved c = rw c.loop-i.invariant (fill_more c.loop-i.i c.args.colour c.args.piece.now (omega arith))
