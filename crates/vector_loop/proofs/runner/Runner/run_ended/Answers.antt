use Rattle.vector_loop.proofs.Common.{arith, none, of_vectors, stays, vector_in, vector_where}
use Rattle.vector_loop.proofs.Answering.{answers-not_over, answers-nothing, answers-over, answers-within}
use Rattle.vector_loop.proofs.runner.Runner.run_ended.Goals as goal

pub returns-then-is_over : goal.returns-then-is_over
returns-then-is_over g c =
    answers-over _ _ (vector_where c.args.self.now.budget c.args.ended c.args.voice) (of_vectors 1)
    (tt {0}) c.is_over.result c.is_over.ensures c.if-is_over.true

pub returns-then-not-ended : goal.returns-then-not-ended
returns-then-not-ended g c = rw c.if-not-ended.true
    (answers-not_over _ _ _ stays (of_vectors 1) _ c.is_over.result c.is_over.ensures c.if-is_over.false
    (answers-within _ _ _ stays none (of_vectors 1) _ (omega arith) (omega arith) (answers-nothing _ _ (tt {0}))))

pub returns : goal.returns
returns g c = rw c.if-not-ended.false
    (answers-not_over _ _ _ (vector_in c.args.self.now.budget _) (of_vectors 1) _ c.is_over.result c.is_over.ensures c.if-is_over.false
    c.run_vector_in.ensures)
