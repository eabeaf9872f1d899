use Rattle.uxn_cli.proofs.Clauses.Works.{◌≡◌, Err, rules, halt_of_inquiry, words-does}
use Rattle.uxn_cli.proofs.entry.perform.Goals as goal

pub returns-in_err-task-clause-does : goal.returns-in_err-task-clause-does
returns-in_err-task-clause-does g c =
    let result : c.from_residual.result ≡ Err (halt_of_inquiry c.in_err-task.field-0.0) = search rules in
    rw result (words-does _ _ c.in_err-task.field-0.0 c.in_err-task.ensures.says)
