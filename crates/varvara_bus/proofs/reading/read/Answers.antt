use Rattle.std.proofs.Common.{arith}
use Rattle.std.proofs.lemmas.Grind.{common_steps}
use Rattle.varvara_bus.specs.ReadsPort.{read_of}
use Rattle.varvara_bus.proofs.reading.read.Goals as goal

pub returns-in_default : goal.returns-in_default
unfolding read_of
returns-in_default c = grind (arith, common_steps)
