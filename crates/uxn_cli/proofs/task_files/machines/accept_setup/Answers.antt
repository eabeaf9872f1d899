use Rattle.uxn_cli.proofs.Common.{rules}
unfoldable use Rattle.uxn_cli.proofs.Common.{setup_of}
use Rattle.uxn_cli.proofs.StepLemmas.{step-stop, step-last}
use Rattle.uxn_cli.proofs.task_files.machines.accept_setup.Goals as goal

pub returns-in_err-text : goal.returns-in_err-text
unfolding setup_of
returns-in_err-text g c = step-stop _ _ _ _ _ _ _ _ (search rules) c.in_err-text.ensures.text

pub returns : goal.returns
unfolding setup_of
returns g c = step-last _ _ _ _ _ _ _ _ c.in_ok-text.ensures.text (rw c.as_slice.ensures at c.validate_setup.ensures)
