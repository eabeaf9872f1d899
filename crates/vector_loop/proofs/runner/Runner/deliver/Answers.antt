use Rattle.vector_loop.proofs.Common.{given, of_events, of_vectors}
use Rattle.vector_loop.specs.Event.{console, give}
use Rattle.vector_loop.specs.PendingInputs.{input_count}
use Rattle.vector_loop.proofs.Answering.{answers-not_over, answers-over}
use Rattle.vector_loop.proofs.runner.Runner.deliver.Goals as goal

pub returns-then-is_over : goal.returns-then-is_over
returns-then-is_over g c =
    answers-over _ _ (given c.args.self.now.budget c.args.outputs.now c.args.pending_input) (input_count c.args.pending_input)
    (tt {0}) c.is_over.result c.is_over.ensures c.if-is_over.true

pub returns-in-OfArgument : goal.returns-in-OfArgument
returns-in-OfArgument g c = rw c.in-OfArgument.is
    (answers-not_over _ _ _ (console c.args.self.now.budget c.in-OfArgument.byte c.in-OfArgument.kind) (of_vectors 1) _ c.is_over.result
    c.is_over.ensures c.if-is_over.false c.give_console.ensures)

pub returns-in-OfEvent : goal.returns-in-OfEvent
returns-in-OfEvent g c = rw c.in-OfEvent.is
    (answers-not_over _ _ _ (give c.args.self.now.budget c.args.outputs.now c.in-OfEvent.event) (of_events 1) _ c.is_over.result
    c.is_over.ensures c.if-is_over.false c.give_event.ensures.answers)
