use Rattle.uxn_cli.proofs.Clauses.Works.{◌≡◌, rules, Err, printed_plan, halt_of_inquiry, halted-unready, does-prints}
use Rattle.uxn_cli.proofs.work.print_text.Goals as goal

pub returns-in_err-text : goal.returns-in_err-text
returns-in_err-text g c = λ task start now err asks.
    let result : c.from_residual.result ≡ Err (halt_of_inquiry c.in_err-text.field-0.0) = search rules in
    rw result (halted-unready printed_plan task start now _ err _ (rw c.in_err-text.was at asks))

pub returns : goal.returns
returns g c = λ task start now err asks.
    does-prints task start now _ _ err c.in_ok-text.text (rw c.in_ok-text.was at asks) c.print.result (rw c.deref.ensures.value at c.print.ensures)
