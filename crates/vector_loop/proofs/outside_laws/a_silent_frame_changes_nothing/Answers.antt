use Rattle.vector_loop.specs.SilenceLaws.{silent}
use Rattle.vector_loop.proofs.outside_laws.a_silent_frame_changes_nothing.Goals as goal

pub returns : goal.returns
returns c = silent
