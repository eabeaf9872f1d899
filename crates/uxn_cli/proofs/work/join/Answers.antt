use Rattle.uxn_cli.proofs.Clauses.Works.{◌≡◌, ◌∙◌, true, false, rules, Ok, Err, refl, sym, joined_plan, halt_of_inquiry, halted-unready, accepted-after}
use Rattle.uxn_cli.proofs.Clauses.Works.{does-behind, does-puts, inquires-stop, inquires-last, Denied, OtherEvents}
unfoldable use Rattle.uxn_cli.proofs.Clauses.Works.{line_plan_of}
use Rattle.uxn_arguments.specs.declared.task.Task.TheVariants as tasks
use Rattle.uxn_cli.proofs.work.join.Goals as goal

pub returns-in_err-inputs : goal.returns-in_err-inputs
unfolding line_plan_of
returns-in_err-inputs g c =
    let result : c.from_residual.result ≡ Err (halt_of_inquiry c.in_err-inputs.field-0.0) = search rules in
    rw result (λ err. halted-unready joined_plan (tasks.Line c.args.path.now) _ _ _ err c.in_err-inputs.field-0.0 (inquires-stop _ _ _ _ _ _ _ c.in_err-inputs.ensures.reads))

pub returns-then-not-are_of_console : goal.returns-then-not-are_of_console
unfolding line_plan_of
returns-then-not-are_of_console g c =
    let no : c.are_of_console.result ≡ false = search rules in
    let other = rw c.events.ensures at (sym c.are_of_console.ensures ∙ no) in
    λ err. halted-unready joined_plan (tasks.Line c.args.path.now) _ _ _ err (Denied OtherEvents)
    (inquires-last _ _ _ _ _ _ _ (Err (Denied OtherEvents)) c.in_ok-inputs.ensures.reads (rw other refl))

pub returns : goal.returns
unfolding line_plan_of
returns g c =
    let task = tasks.Line c.args.path.now in
    let is : c.are_of_console.result ≡ true = search rules in
    let of = rw c.events.ensures at (sym c.are_of_console.ensures ∙ is) in
    let asks = inquires-last _ joined_plan _ _ _ _ _ (Ok c.in_ok-inputs.inputs) c.in_ok-inputs.ensures.reads (rw of refl) in
    λ err. does-behind joined_plan task _ _ _ err _ _ c.in_ok-inputs.inputs asks
    (does-puts task _ _ _ err _ (accepted-after joined_plan task _ _ c.in_ok-inputs.inputs asks) _ _ refl refl
    (λ rest some. (refl, some)) c.run_line.result c.run_line.ensures)
