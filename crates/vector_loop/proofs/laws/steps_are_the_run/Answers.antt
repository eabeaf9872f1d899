use Rattle.vector_loop.specs.StepLaws.{steps-are}
use Rattle.vector_loop.proofs.laws.steps_are_the_run.Goals as goal

pub returns : goal.returns
returns c = steps-are
