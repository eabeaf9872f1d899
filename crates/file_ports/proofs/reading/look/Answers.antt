use Rattle.std.proofs.Common.{arith}
use Rattle.std.proofs.lemmas.Grind.{common_steps}
use Rattle.file_ports.proofs.reading.look.Goals as goal

pub returns-in_err-list-in-Folder-clause-tree : goal.returns-in_err-list-in-Folder-clause-tree
returns-in_err-list-in-Folder-clause-tree g c = grind (arith, common_steps)

pub returns-in_ok-list-in-Folder-clause-tree : goal.returns-in_ok-list-in-Folder-clause-tree
returns-in_ok-list-in-Folder-clause-tree g c = grind (arith, common_steps)
