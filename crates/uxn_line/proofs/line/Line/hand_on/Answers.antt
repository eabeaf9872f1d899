use Rattle.uxn_line.proofs.Common.{arith, sink-as-it-was, common_steps}
use Rattle.uxn_line.proofs.Handed.{handed-none, put-none}
use Rattle.uxn_line.proofs.line.Line.hand_on.Goals as goal

pub returns-in-None : goal.returns-in-None
returns-in-None g c = grind (arith, common_steps, handed-none, put-none, sink-as-it-was)
