use Rattle.std.proofs.Common.{arith}
use Rattle.std.proofs.lemmas.Grind.{common_steps}
use Rattle.system_port.specs.DebugText.{ring_line}
use Rattle.system_port.proofs.debug.put_line.Goals as goal

pub loop-byte-preserved : goal.loop-byte-preserved
loop-byte-preserved c = grind (arith, common_steps)

pub returns-clause-items : goal.returns-clause-items
unfolding ring_line
returns-clause-items c = grind (arith, common_steps)
