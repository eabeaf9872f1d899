use Rattle.vector_loop.proofs.Common.{arith, heard, none, of_vectors, refl, stays, with_rendered}
use Rattle.varvara_bus.specs.State.{rendered}
use Rattle.vector_loop.specs.SilenceLaws.{silent}
use Rattle.vector_loop.proofs.Frames.{none-is}
use Rattle.vector_loop.proofs.Answering.{answers-nothing, answers-stored, answers-where, answers-within}
use Rattle.vector_loop.proofs.runner.Runner.give_sound.Goals as goal

pub returns-then-is_endless : goal.returns-then-is_endless
returns-then-is_endless g c =
    answers-within _ _ _ (heard c.args.self.now.budget c.args.outputs.now) none (of_vectors 4) _ (omega arith) (omega arith)
    (answers-where _ _ _ (λ s. stays (with_rendered s)) (heard c.args.self.now.budget c.args.outputs.now) none _
    (λ devices stands. silent c.args.self.now.budget c.args.outputs.now _ (none-is _ c.if-is_none.ensures)
    (c.pass_frame.ensures.ends devices stands.devices))
    (answers-stored _ _ _ _ rendered stays none _ refl refl refl c.pass_frame.ensures.others c.pass_frame.ensures.frames
    c.pass_frame.ensures.devices.bus (answers-nothing _ _ (tt {0}))))
