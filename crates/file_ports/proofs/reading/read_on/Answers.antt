use Rattle.std.proofs.Common.{arith}
use Rattle.std.proofs.lemmas.Grind.{common_steps}
use Rattle.file_ports.proofs.reading.read_on.Goals as goal

pub returns-in-Idle-clause-piece : goal.returns-in-Idle-clause-piece
returns-in-Idle-clause-piece g c = grind (arith, common_steps)
