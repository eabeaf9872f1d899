use Rattle.std.proofs.Common.{arith}
use Rattle.std.proofs.lemmas.Grind.{common_steps}
use Rattle.file_ports.proofs.device.FileDevice.delete.Goals as goal

pub returns-in_err-remove-in-Some-clause-tree : goal.returns-in_err-remove-in-Some-clause-tree
returns-in_err-remove-in-Some-clause-tree g c = grind (arith, common_steps)

pub returns-in_ok-remove-in-Some-clause-tree : goal.returns-in_ok-remove-in-Some-clause-tree
returns-in_ok-remove-in-Some-clause-tree g c = grind (arith, common_steps)
