use Rattle.vector_loop.proofs.CountedRuns.{run-counts}
use Rattle.vector_loop.proofs.laws.the_moments_of_a_run_are_counted.Goals as goal

pub returns : goal.returns
returns c = run-counts
