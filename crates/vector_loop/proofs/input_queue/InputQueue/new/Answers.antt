use Rattle.vector_loop.proofs.Taking.{all-left}
use Rattle.vector_loop.proofs.input_queue.InputQueue.new.Goals as goal

pub returns : goal.returns
returns c = rw (c.first_of.ensures, c.args-arguments.ensures, c.events.ensures) (all-left _ _)
