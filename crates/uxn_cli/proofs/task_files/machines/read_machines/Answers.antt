use Rattle.uxn_cli.proofs.Common.{rules, refl}
unfoldable use Rattle.uxn_cli.proofs.Common.{machines_of}
use Rattle.uxn_cli.proofs.StepLemmas.{step-stop, step-more, step-last}
use Rattle.uxn_cli.proofs.task_files.machines.read_machines.Goals as goal

pub returns-in_err-setup-clause-reads : goal.returns-in_err-setup-clause-reads
unfolding machines_of
returns-in_err-setup-clause-reads g c = step-stop _ _ _ _ _ _ _ _ (search rules) c.in_err-setup.ensures

pub returns-in_err-roms-clause-reads : goal.returns-in_err-roms-clause-reads
unfolding machines_of
returns-in_err-roms-clause-reads g c =
    step-more _ _ _ _ _ _ _ _ _ c.in_ok-setup.ensures (step-stop _ _ _ _ _ _ _ _ (search rules) (rw c.sources.ensures.paths at c.in_err-roms.ensures.roms))

pub returns-in_err-script-clause-reads : goal.returns-in_err-script-clause-reads
unfolding machines_of
returns-in_err-script-clause-reads g c =
    step-more _ _ _ _ _ _ _ _ _ c.in_ok-setup.ensures (step-more _ _ _ _ _ _ _ _ _ (rw c.sources.ensures.paths at c.in_ok-roms.ensures.roms)
    (step-stop _ _ _ _ _ _ _ _ (search rules) (rw c.script.ensures at c.in_err-script.ensures)))

pub returns-clause-reads : goal.returns-clause-reads
unfolding machines_of
returns-clause-reads g c =
    step-more _ _ _ _ _ _ _ _ _ c.in_ok-setup.ensures (step-more _ _ _ _ _ _ _ _ _ (rw c.sources.ensures.paths at c.in_ok-roms.ensures.roms)
    (step-last _ _ _ _ _ _ _ _ (rw c.script.ensures at c.in_ok-script.ensures) refl))
