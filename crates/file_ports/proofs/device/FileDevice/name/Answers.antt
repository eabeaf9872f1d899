use Rattle.std.specs.Option.{option_copied}
use Rattle.file_ports.specs.PartLaws.{named-suits}
use Rattle.file_ports.proofs.device.FileDevice.name.Goals as goal

pub returns-clause-suits : goal.returns-clause-suits
returns-clause-suits c = rw c.path_named-self-inside.ensures (named-suits (option_copied c.args.root) c.args.memory.now c.args.at)
