use Rattle.vector_loop.specs.AppendingLaws.{run-adds}
use Rattle.vector_loop.proofs.outside_laws.a_run_only_adds_outside_its_root.Goals as goal

pub returns : goal.returns
returns c = run-adds
