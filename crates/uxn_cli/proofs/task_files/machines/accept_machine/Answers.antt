use Rattle.uxn_cli.proofs.Common.{rules}
unfoldable use Rattle.uxn_cli.proofs.Common.{machine_of}
use Rattle.uxn_cli.proofs.StepLemmas.{step-stop, step-last}
use Rattle.uxn_cli.proofs.task_files.machines.accept_machine.Goals as goal

pub returns-in_err-source-clause-rom : goal.returns-in_err-source-clause-rom
unfolding machine_of
returns-in_err-source-clause-rom g c = step-stop _ _ _ _ _ _ _ _ (search rules) c.in_err-source.ensures.source

pub returns-clause-rom : goal.returns-clause-rom
unfolding machine_of
returns-clause-rom g c = step-last _ _ _ _ _ _ _ _ c.in_ok-source.ensures.source (search rules)
