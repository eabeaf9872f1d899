use Rattle.uxn_undo.proofs.Holding.{held-fewer, held-fits}
use Rattle.uxn_undo.proofs.undo.Undo.make_room.Goals as goal

pub loop-self-preserved : goal.loop-self-preserved
loop-self-preserved c =
    held-fewer c.args.count _ _ _ _ c.has_room.ensures.room c.loop-self-test.true c.requires c.forget_oldest.ensures c.loop-self.invariant

pub returns : goal.returns
returns c = held-fits c.args.count _ _ _ c.has_room.ensures.room c.loop-self-test.false c.loop-self.invariant
