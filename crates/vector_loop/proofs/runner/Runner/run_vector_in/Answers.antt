use Rattle.vector_loop.proofs.Common.{arith, none, of_vectors, stays, vector, vector_in}
use Rattle.vector_loop.proofs.Events.{its-vector, no-vector}
use Rattle.vector_loop.proofs.Answering.{answers-and, answers-nothing, answers-where, answers-within}
use Rattle.vector_loop.proofs.runner.Runner.run_vector_in.Goals as goal

pub returns-then-at-eq0 : goal.returns-then-at-eq0
returns-then-at-eq0 g c =
    answers-within _ _ _ (vector_in c.args.self.now.budget c.args.port) none (of_vectors 1) _ (omega arith) (omega arith)
    (answers-where _ _ _ stays (vector_in c.args.self.now.budget c.args.port) none _
    (λ devices stands. no-vector c.args.self.now.budget c.args.port c.stored_short-at.result _
    (c.stored_short-at.ensures devices stands.devices) c.if-at-eq0.true)
    (answers-nothing _ _ (tt {0})))

pub returns : goal.returns
returns g c = rw c.and.ensures
    (answers-where _ _ _ (vector c.args.self.now.budget c.stored_short-at.result) (vector_in c.args.self.now.budget c.args.port) (of_vectors 1) _
    (λ devices stands. its-vector c.args.self.now.budget c.args.port c.stored_short-at.result _
    (c.stored_short-at.ensures devices stands.devices) c.if-at-eq0.false)
    (answers-and _ _ _ (vector c.args.self.now.budget c.stored_short-at.result) (of_vectors 1) c.run_vector.result
    (tt {0}) c.run_vector.ensures.answers))
