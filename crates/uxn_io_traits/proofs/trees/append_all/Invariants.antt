-- A prefix of the piece was appended.
use Rattle.std.proofs.Common.{length, take, ◌-◌, ◌≤◌, false, None}
use Rattle.uxn_io_traits.specs.Ended.{TreeEnded, Refused, appending}
use Rattle.uxn_io_traits.proofs.trees.append_all.Given as goal

abbrev pub invariant-loop-at : goal.invariant-loop-at
invariant-loop-at g l = record {
  within : l.at ≤ length l.piece;
  ended : TreeEnded (appending l.path (take l.at l.piece)) false (g.T.Tree.state l.fn.tree) (g.T.Tree.state l.tree);
  refused : Refused None (g.T.Tree.state l.fn.tree) (g.T.Tree.state l.tree);
}

abbrev pub decreases-loop-at : goal.decreases-loop-at
decreases-loop-at g l = length l.piece - l.at
