use Rattle.uxn_debugger.proofs.reading.read_commands.Goals as goal

pub returns : goal.returns
returns c = rw c.in_ok-names.ensures at c.commands_by.ensures
