use Rattle.vector_loop.proofs.Common.{[], of_vectors, refl, storing, vector_in, ◌∷◌}
use Rattle.uxn_limits.specs.declared.ports.TheConstants.{CONSOLE_VECTOR, CONSOLE_READ, CONSOLE_TYPE}
use Rattle.console_port.specs.Console.{event_byte}
use Rattle.vector_loop.specs.Event.{console}
use Rattle.vector_loop.proofs.Answering.{answers-stored}
use Rattle.vector_loop.proofs.runner.Runner.give_console.Goals as goal

pub returns : goal.returns
unfolding console
returns g c =
    answers-stored _ _ _ _ (storing ((CONSOLE_READ, c.args.byte) ∷ (CONSOLE_TYPE, event_byte c.args.kind) ∷ []))
    (vector_in c.args.self.now.budget CONSOLE_VECTOR) (of_vectors 1) _ refl refl refl c.give.ensures.others c.give.ensures.frames
    (rw c.byte.ensures at c.give.ensures.devices.bus) c.run_vector_in.ensures
