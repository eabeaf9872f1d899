use Rattle.uxn_cli.proofs.Common.{ap, rules, refl}
use Rattle.uxn_cli.specs.Accepted.{Loaded}
unfoldable use Rattle.uxn_cli.proofs.Common.{files_of}
use Rattle.uxn_cli.proofs.StepLemmas.{step-stop, step-last, step-no-memory}
use Rattle.uxn_cli.proofs.task_files.assembling.assemble.Goals as goal

pub returns-in_err-source : goal.returns-in_err-source
unfolding files_of
returns-in_err-source g c = step-stop _ _ _ _ _ _ _ _ (search rules) c.in_err-source.ensures.source

pub returns-in_err-outputs : goal.returns-in_err-outputs
unfolding files_of
returns-in_err-outputs g c = step-no-memory _ _ _ _ _ _ _ _ (search rules) c.in_ok-source.ensures.source

pub returns : goal.returns
unfolding files_of
returns g c = step-last _ _ _ _ _ _ _ _ c.in_ok-source.ensures.source (let is = c.from-program.ensures in rw (c.in_ok-outputs.ensures, ap (λ (l : Loaded). l.included) is) refl)
