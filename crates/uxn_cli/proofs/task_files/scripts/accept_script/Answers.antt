use Rattle.uxn_cli.proofs.Common.{rules}
unfoldable use Rattle.uxn_cli.proofs.Common.{script_of}
use Rattle.uxn_io_traits.specs.AskingLaws.{inquires-said}
use Rattle.uxn_cli.proofs.StepLemmas.{step-stop, step-last}
use Rattle.uxn_cli.proofs.task_files.scripts.accept_script.Goals as goal

pub returns-in_default : goal.returns-in_default
unfolding script_of
returns-in_default g c = rw c.in_default.is (inquires-said _ _ _ _ c.validate_script.ensures)

pub returns-in_err-text : goal.returns-in_err-text
unfolding script_of
returns-in_err-text g c = rw c.in-Some.is (step-stop _ _ _ _ _ _ _ _ (search rules) c.in_err-text.ensures.text)

pub returns : goal.returns
unfolding script_of
returns g c = rw c.in-Some.is (step-last _ _ _ _ _ _ _ _ c.in_ok-text.ensures.text (rw c.as_slice.ensures at c.validate_script-2.ensures))
