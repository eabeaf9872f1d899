use Rattle.std.proofs.Common.{arith}
use Rattle.std.proofs.lemmas.Grind.{common_steps}
use Rattle.file_ports.specs.ActLaws.{act-lies, act-suits, parent-kept, outside-kept}
use Rattle.file_ports.specs.PartLaws.{below-files_by, outcome-same}
use Rattle.file_ports.proofs.laws.actions_keep_to_the_root.Goals as goal

pub returns : goal.returns
returns c = grind (arith, common_steps, act-lies, act-suits, below-files_by, outcome-same, outside-kept, parent-kept)
