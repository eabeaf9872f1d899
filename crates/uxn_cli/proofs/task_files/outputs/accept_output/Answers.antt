use Rattle.uxn_cli.proofs.Common.{rules}
unfoldable use Rattle.uxn_cli.proofs.Common.{free_output}
use Rattle.uxn_cli.proofs.StepLemmas.{step-stop, step-last}
use Rattle.uxn_cli.proofs.task_files.outputs.accept_output.Goals as goal

pub returns-in_err-can : goal.returns-in_err-can
unfolding free_output
returns-in_err-can g c = step-stop _ _ _ _ _ _ _ _ (search rules) c.in_err-can.ensures

pub returns : goal.returns
unfolding free_output
returns g c = step-last _ _ _ _ _ _ _ _ c.in_ok-can.ensures c.said_output.ensures
