use Rattle.uxn_cli.proofs.machine.new_machine.Goals as goal

pub returns-clause-devices : goal.returns-clause-devices
returns-clause-devices c = rw c.in_ok-boxed.ensures.ok (rw (c.clock_of.ensures, c.clock.ensures) at c.in_ok-devices.ensures)
