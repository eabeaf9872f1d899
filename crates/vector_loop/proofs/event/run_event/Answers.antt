use Rattle.vector_loop.proofs.Common.{refl, rules}
use Rattle.vector_loop.proofs.Runs.{handed}
use Rattle.vector_loop.proofs.event.run_event.Goals as goal

pub returns-clause-ok : goal.returns-clause-ok
returns-clause-ok g c = (handed _ _ _ _ _ _ _ (search rules) c.give_event-given.ensures.answers).ok

pub returns-clause-err : goal.returns-clause-err
returns-clause-err g c = (handed _ _ _ _ _ _ _ (search rules) c.give_event-given.ensures.answers).err

pub returns-clause-stopped : goal.returns-clause-stopped
returns-clause-stopped g c = (handed _ _ _ _ _ _ _ (search rules) c.give_event-given.ensures.answers).stopped

pub returns-clause-memory : goal.returns-clause-memory
returns-clause-memory g c = (handed _ _ _ _ _ _ _ refl c.give_event-given.ensures.answers).memory
