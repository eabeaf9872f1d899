use Rattle.vector_loop.proofs.Common.{Err, Ok, arith, heard, of_vectors, rules, unless_over, vector_in, ◌≡◌}
use Rattle.vector_loop.specs.Event.{shown_and_heard}
use Rattle.vector_loop.proofs.Answering.{answers-by, answers-first, answers-not_over, answers-over, answers-then, answers-within}
use Rattle.vector_loop.proofs.runner.Runner.show_and_sound.Goals as goal

pub returns-in_err-run_vector_in : goal.returns-in_err-run_vector_in
unfolding shown_and_heard
returns-in_err-run_vector_in g c =
    let result : c.from_residual.result ≡ Err c.in_err-run_vector_in.field-0.0 = search rules in
    rw result (answers-within _ _ _ _ (of_vectors 1) (of_vectors 5) _ (omega arith) (omega arith)
    (answers-first _ _ _ (vector_in c.args.self.now.budget 0x20) (unless_over (heard c.args.self.now.budget c.args.outputs.now))
    (of_vectors 1) c.in_err-run_vector_in.field-0.0 c.in_err-run_vector_in.ensures))

pub returns-then-is_over : goal.returns-then-is_over
unfolding shown_and_heard
returns-then-is_over g c =
    answers-then _ _ _ _ (vector_in c.args.self.now.budget 0x20) (unless_over (heard c.args.self.now.budget c.args.outputs.now)) (of_vectors 1)
    (of_vectors 4) (tt {0}) (Ok (tt {0}))
    c.in_ok-run_vector_in.ensures
    (answers-over _ _ (heard c.args.self.now.budget c.args.outputs.now) (of_vectors 4) (tt {0}) c.is_over.result c.is_over.ensures c.if-is_over.true)

pub returns : goal.returns
unfolding shown_and_heard
returns g c =
    answers-then _ _ _ _ (vector_in c.args.self.now.budget 0x20) (unless_over (heard c.args.self.now.budget c.args.outputs.now)) (of_vectors 1)
    (of_vectors 4) (tt {0}) _
    c.in_ok-run_vector_in.ensures
    (answers-not_over _ _ _ (heard c.args.self.now.budget c.args.outputs.now) (of_vectors 4) _ c.is_over.result c.is_over.ensures c.if-is_over.false
    (answers-by _ _ _ (λ n. heard n c.args.outputs.now) (of_vectors 4) _ _ c.in_ok-run_vector_in.ensures.same.budget c.give_sound.ensures))
