use Rattle.uxn_line.proofs.machine.hold.Goals as goal

pub returns-clause-vector : goal.returns-clause-vector
returns-clause-vector c state rests = c.stored_short.ensures _ (c.give.ensures.stands state rests.devices)
