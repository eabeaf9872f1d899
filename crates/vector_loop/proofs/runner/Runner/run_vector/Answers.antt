use Rattle.vector_loop.proofs.Common.{arith, rules}
use Rattle.vector_loop.specs.Vector.{vector_end}
use Rattle.vector_loop.proofs.Counting.{grown-run}
use Rattle.vector_loop.proofs.Vectors.{vector-reaches}
use Rattle.vector_loop.proofs.Answering.{answers-ran}
use Rattle.vector_loop.proofs.runner.Runner.run_vector.Goals as goal

pub returns-clause-answers : goal.returns-clause-answers
returns-clause-answers = search (arith, rules, answers-ran, grown-run, vector-reaches)

pub returns-clause-end : goal.returns-clause-end
unfolding vector_end
returns-clause-end g c = (rw c.from-budget.ensures at c.run_instructions-ran.ensures.ran).ends
