use Rattle.vector_loop.proofs.Common.{Err, Ok, ap, arith, counts_of, give_each, given, length, of_vectors, refl, rules, storing, sym, vector, with_stored, ◌∙◌, ◌≡◌}
use Rattle.std.proofs.lemmas.List.{length-map}
use Rattle.varvara_bus.specs.History.{made_ready}
use Rattle.vector_loop.specs.Run.{most_of, run}
use Rattle.vector_loop.specs.PendingInputs.{pending_inputs_of}
use Rattle.vector_loop.proofs.Answering.{answers-by, answers-first, answers-stored, answers-then, answers-within, room-after}
use Rattle.vector_loop.proofs.runner.Runner.run.Goals as goal

pub returns-in_err-run_vector : goal.returns-in_err-run_vector
unfolding run
returns-in_err-run_vector g c =
    let stop = c.in_err-run_vector.field-0.0 in
    let ready = made_ready (length c.args.script.now.arguments) in
    let count = sym (length-map _ _) ∙ ap length c.args-2.ensures in
    let result : c.from_residual.result ≡ Err stop = search rules in
    rw result (answers-within _ _ _ _ (of_vectors 1) (most_of c.args.script.now) _ (omega arith) (omega arith)
    (answers-first _ _ _ (λ s. vector c.args.self.now.budget 0x0100 (with_stored ready s))
    (give_each (given c.args.self.now.budget c.args.outputs.now) (pending_inputs_of c.args.script.now)) (of_vectors 1) stop
    (answers-stored _ _ _ _ (storing ready) (vector c.args.self.now.budget 0x0100) (of_vectors 1) (Err stop) refl refl refl
    c.make_ready.ensures.others c.make_ready.ensures.frames (rw count at c.make_ready.ensures.devices.bus) c.in_err-run_vector.ensures.answers)))

pub give_all-requires-clause-frames : goal.give_all-requires-clause-frames
give_all-requires-clause-frames g c =
    rw c.new.ensures (omega (arith, c.requires.frames, c.make_ready.ensures.frames, c.in_ok-run_vector.ensures.answers.frames))

pub give_all-requires-clause-room : goal.give_all-requires-clause-room
give_all-requires-clause-room g c = rw c.new.ensures
    (room-after _ _ _ _ (of_vectors 1) (counts_of (pending_inputs_of c.args.script.now)) (most_of c.args.script.now) _ (omega arith) (omega arith)
    c.requires.room c.in_ok-run_vector.ensures.answers)

pub returns : goal.returns
unfolding run
returns g c =
    let pending_inputs = pending_inputs_of c.args.script.now in
    let ready = made_ready (length c.args.script.now.arguments) in
    let count = sym (length-map _ _) ∙ ap length c.args-2.ensures in
    answers-then _ _ _ _ (λ s. vector c.args.self.now.budget 0x0100 (with_stored ready s))
    (give_each (given c.args.self.now.budget c.args.outputs.now) pending_inputs) (of_vectors 1)
    (counts_of pending_inputs) c.in_ok-run_vector.field-0 _
    (answers-stored _ _ _ _ (storing ready) (vector c.args.self.now.budget 0x0100) (of_vectors 1) (Ok c.in_ok-run_vector.field-0) refl refl refl
    c.make_ready.ensures.others c.make_ready.ensures.frames (rw count at c.make_ready.ensures.devices.bus) c.in_ok-run_vector.ensures.answers)
    (answers-by _ _ _ (λ n. give_each (given n c.args.outputs.now) pending_inputs) (counts_of pending_inputs) _ _
    c.in_ok-run_vector.ensures.answers.same.budget (rw c.new.ensures at c.give_all.ensures))
