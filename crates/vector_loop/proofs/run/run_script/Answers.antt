use Rattle.vector_loop.proofs.Common.{arguments_given, arith, rules}
use Rattle.vector_loop.specs.Run.{most_of}
use Rattle.vector_loop.proofs.Counting.{room-new}
use Rattle.vector_loop.proofs.Giving.{all-given}
use Rattle.vector_loop.proofs.PendingInputs.{inputs-count}
use Rattle.vector_loop.proofs.Runs.{run-finished, run-stopped}
use Rattle.vector_loop.proofs.run.run_script.Goals as goal

pub run-requires-clause-frames : goal.run-requires-clause-frames
run-requires-clause-frames g c =
    omega (arith, c.requires.frames, (inputs-count (arguments_given c.args.script.now.arguments) c.args.script.now.events).events)

pub run-requires-clause-room : goal.run-requires-clause-room
run-requires-clause-room g c =
    let counts = inputs-count (arguments_given c.args.script.now.arguments) c.args.script.now.events in
    room-new _ _ c.requires.budget (omega (arith, counts.vectors, all-given c.args.script.now.arguments)) (omega (arith, counts.events)) (omega arith)

pub returns-in_err-run-clause-stopped : goal.returns-in_err-run-clause-stopped
returns-in_err-run-clause-stopped g c =
    (run-stopped _ _ _ _ _ _ _ (most_of c.args.script.now) c.in_err-run.field-0.0 _ (search rules) (search rules)
    c.in_err-run.ensures).stopped

pub returns-in_err-run-clause-err : goal.returns-in_err-run-clause-err
returns-in_err-run-clause-err g c =
    (run-stopped _ _ _ _ _ _ _ (most_of c.args.script.now) c.in_err-run.field-0.0 _ (search rules) (search rules)
    c.in_err-run.ensures).err

pub returns-clause-ok : goal.returns-clause-ok
returns-clause-ok g c =
    (run-finished _ _ _ _ _ _ _ _ (most_of c.args.script.now) _ _ (search rules) c.in_ok-run.ensures
    c.finish.ensures).ok

pub returns-clause-stopped : goal.returns-clause-stopped
returns-clause-stopped g c =
    (run-finished _ _ _ _ _ _ _ _ (most_of c.args.script.now) _ _ (search rules) c.in_ok-run.ensures
    c.finish.ensures).stopped

pub returns-clause-err : goal.returns-clause-err
returns-clause-err g c =
    (run-finished _ _ _ _ _ _ _ _ (most_of c.args.script.now) _ _ (search rules) c.in_ok-run.ensures
    c.finish.ensures).err
