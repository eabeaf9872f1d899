use Rattle.std.proofs.Common.{arith}
use Rattle.std.proofs.lemmas.Grind.{common_steps}
use Rattle.text_lines.proofs.setup_reading.Gathered.push.Goals as goal

pub invariant_of-self : goal.invariant_of-self
invariant_of-self c = grind (arith, common_steps)

pub invariant_of-self-in-Turn : goal.invariant_of-self-in-Turn
invariant_of-self-in-Turn c = grind (arith, common_steps)
