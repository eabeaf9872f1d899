use Rattle.uxn_line.proofs.Ending.{turn-way}
use Rattle.uxn_line.proofs.line.Line.turn.Goals as goal

pub returns-clause-under_way : goal.returns-clause-under_way
returns-clause-under_way g c = turn-way _ _ _ _ _ c.turn_at.result c.turn_at.ensures
