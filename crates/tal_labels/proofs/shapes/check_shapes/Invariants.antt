use Rattle.tal_labels.proofs.ShapeLemmas.{IsShapedSo}
use Rattle.tal_labels.proofs.shapes.check_shapes.Given as goal

abbrev pub invariant-loop-k : goal.invariant-loop-k
invariant-loop-k l = IsShapedSo l.source l.words l.k l.depth
