use Rattle.std.proofs.Common.{◌≡◌, ◌++◌, drop, replicate}
use Rattle.screen_layers.proofs.plane.fill_piece.Given as goal

abbrev pub invariant-loop-i : goal.invariant-loop-i
invariant-loop-i l = l.piece ≡ replicate l.i l.colour ++ drop l.i l.fn.piece
