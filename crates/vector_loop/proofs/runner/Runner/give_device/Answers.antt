use Rattle.vector_loop.proofs.Common.{Err, Ok, none, of_vectors, refl, rules, stays, stored, storing, vector_in, with_stored, ◌≡◌}
use Rattle.input_ports.specs.Page.{stores_after, stores_of, vector_of}
use Rattle.vector_loop.specs.Event.{device}
use Rattle.vector_loop.proofs.Events.{applying, its-ports, settling}
use Rattle.vector_loop.proofs.Answering.{answers-first, answers-not_over, answers-nothing, answers-over, answers-stored, answers-then}
use Rattle.vector_loop.proofs.runner.Runner.give_device.Goals as goal

pub run_vector_in-requires-clause-port : goal.run_vector_in-requires-clause-port
run_vector_in-requires-clause-port g c = rw c.vector_port.ensures (its-ports c.args.input.now)

pub returns-in_err-run_vector_in : goal.returns-in_err-run_vector_in
unfolding device
returns-in_err-run_vector_in g c =
    let stop = c.in_err-run_vector_in.field-0.0 in
    let result : c.from_residual.result ≡ Err stop = search rules in
    rw result (answers-first _ _ _ (λ s. vector_in c.args.self.now.budget (vector_of c.args.input.now) (applying c.args.input.now s))
    (settling c.args.input.now) (of_vectors 1) stop
    (answers-stored _ _ _ _ (λ d. storing (stores_of (stored d.history) c.args.input.now) d)
    (vector_in c.args.self.now.budget (vector_of c.args.input.now)) (of_vectors 1) (Err stop) refl refl refl c.apply.ensures.others
    c.apply.ensures.frames c.apply.ensures.devices.bus (rw c.vector_port.ensures at c.in_err-run_vector_in.ensures)))

pub returns-then-is_over : goal.returns-then-is_over
unfolding device
returns-then-is_over g c =
    answers-then _ _ _ _ (λ s. vector_in c.args.self.now.budget (vector_of c.args.input.now) (applying c.args.input.now s))
    (settling c.args.input.now) (of_vectors 1) none (tt {0}) (Ok (tt {0}))
    (answers-stored _ _ _ _ (λ d. storing (stores_of (stored d.history) c.args.input.now) d)
    (vector_in c.args.self.now.budget (vector_of c.args.input.now)) (of_vectors 1) (Ok (tt {0})) refl refl refl c.apply.ensures.others
    c.apply.ensures.frames c.apply.ensures.devices.bus (rw c.vector_port.ensures at c.in_ok-run_vector_in.ensures))
    (answers-over _ _ (λ after. stays (with_stored (stores_after c.args.input.now) after)) none
    (tt {0}) c.is_over.result c.is_over.ensures c.if-is_over.true)

pub returns : goal.returns
unfolding device
returns g c =
    answers-then _ _ _ _ (λ s. vector_in c.args.self.now.budget (vector_of c.args.input.now) (applying c.args.input.now s))
    (settling c.args.input.now) (of_vectors 1) none (tt {0}) (Ok (tt {0}))
    (answers-stored _ _ _ _ (λ d. storing (stores_of (stored d.history) c.args.input.now) d)
    (vector_in c.args.self.now.budget (vector_of c.args.input.now)) (of_vectors 1) (Ok (tt {0})) refl refl refl c.apply.ensures.others
    c.apply.ensures.frames c.apply.ensures.devices.bus (rw c.vector_port.ensures at c.in_ok-run_vector_in.ensures))
    (answers-not_over _ _ _ (λ after. stays (with_stored (stores_after c.args.input.now) after)) none (Ok (tt {0})) c.is_over.result
    c.is_over.ensures c.if-is_over.false
    (answers-stored _ _ _ _ (storing (stores_after c.args.input.now)) stays none (Ok (tt {0})) refl refl refl c.settle.ensures.others
    c.settle.ensures.frames c.settle.ensures.devices.bus (answers-nothing _ _ (tt {0}))))
