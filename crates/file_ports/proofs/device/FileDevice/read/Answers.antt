use Rattle.std.proofs.Common.{arith}
use Rattle.std.proofs.lemmas.Grind.{common_steps}
use Rattle.file_ports.proofs.ReadLemmas.{puts_nothing}
use Rattle.file_ports.proofs.device.FileDevice.read.Goals as goal

pub returns-in_err-mode-in-Some-clause-acted : goal.returns-in_err-mode-in-Some-clause-acted
returns-in_err-mode-in-Some-clause-acted g c = grind (arith, common_steps, puts_nothing)
