use Rattle.uxn_cli.proofs.Common.{rules, refl}
unfoldable use Rattle.uxn_cli.proofs.Common.{run_of}
use Rattle.uxn_cli.proofs.StepLemmas.{step-stop, step-more, step-last}
use Rattle.uxn_cli.proofs.task_files.run_inputs.read_run.Goals as goal

pub returns-in_err-program-clause-reads : goal.returns-in_err-program-clause-reads
unfolding run_of
returns-in_err-program-clause-reads g c = step-stop _ _ _ _ _ _ _ _ (search rules) c.in_err-program.ensures.loads

pub returns-in_err-labels-clause-reads : goal.returns-in_err-labels-clause-reads
unfolding run_of
returns-in_err-labels-clause-reads g c =
    step-more _ _ _ _ _ _ _ _ _ c.in_ok-program.ensures.loads
    (step-stop _ _ _ _ _ _ _ _ (search rules) (rw c.symbols_input.ensures at c.in_err-labels.ensures))

pub returns-in_err-script-clause-reads : goal.returns-in_err-script-clause-reads
unfolding run_of
returns-in_err-script-clause-reads g c =
    step-more _ _ _ _ _ _ _ _ _ c.in_ok-program.ensures.loads (step-more _ _ _ _ _ _ _ _ _ (rw c.symbols_input.ensures at c.in_ok-labels.ensures)
    (step-stop _ _ _ _ _ _ _ _ (search rules) c.in_err-script.ensures))

pub returns-in_err-commands-clause-reads : goal.returns-in_err-commands-clause-reads
unfolding run_of
returns-in_err-commands-clause-reads g c =
    step-more _ _ _ _ _ _ _ _ _ c.in_ok-program.ensures.loads (step-more _ _ _ _ _ _ _ _ _ (rw c.symbols_input.ensures at c.in_ok-labels.ensures)
    (step-more _ _ _ _ _ _ _ _ _ c.in_ok-script.ensures
    (step-stop _ _ _ _ _ _ _ _ (search rules) (rw (c.commands_input.ensures, c.deref.ensures.value) at c.in_err-commands.ensures))))

pub returns-clause-reads : goal.returns-clause-reads
unfolding run_of
returns-clause-reads g c =
    step-more _ _ _ _ _ _ _ _ _ c.in_ok-program.ensures.loads (step-more _ _ _ _ _ _ _ _ _ (rw c.symbols_input.ensures at c.in_ok-labels.ensures)
    (step-more _ _ _ _ _ _ _ _ _ c.in_ok-script.ensures
    (step-last _ _ _ _ _ _ _ _ (rw (c.commands_input.ensures, c.deref.ensures.value) at c.in_ok-commands.ensures) refl)))
