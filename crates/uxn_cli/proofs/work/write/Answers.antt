use Rattle.uxn_cli.proofs.Clauses.Works.{◌≡◌, rules, Ok, Err, refl, sym, ◌∙◌, subst, WritesOutputs, Plan, planned, Write, inquires-stop}
use Rattle.uxn_cli.proofs.Clauses.Works.{inquires-last, observed_paths, halt_of_inquiry, observed_texts, Written, plan-outputs, halted-unready, accepted-after, does-behind, does-write}
use Rattle.uxn_arguments.specs.declared.task.Task.TheVariants as tasks
use Rattle.uxn_cli.proofs.work.write.Goals as goal

-- the files that are written out of a source
abbrev plan_of_written : Written → Plan
plan_of_written written = planned (Write (observed_texts written.outputs.items)) written.included.items

pub returns-in_err-written : goal.returns-in_err-written
returns-in_err-written g c =
    let result : c.from_residual.result ≡ Err (halt_of_inquiry c.in_err-written.field-0.0) = search rules in
    rw result (λ out err. halted-unready plan_of_written (tasks.Assemble c.args.task.now) _ _ out err c.in_err-written.field-0.0
    (inquires-stop _ _ _ _ _ _ _ c.in_err-written.ensures))

pub write_outputs-requires : goal.write_outputs-requires
write_outputs-requires g c =
    let task = tasks.Assemble c.args.task.now in
    let written = c.in_ok-written.written in
    let accepted = accepted-after plan_of_written task _ _ written (inquires-last _ _ _ _ _ _ _ _ c.in_ok-written.ensures refl) in
    record { task = task; apart = c.requires; outputs = sym (plan-outputs _ task _ accepted ∙ observed_paths written.outputs.items) }

pub returns : goal.returns
returns g c =
    let task = tasks.Assemble c.args.task.now in
    let written = c.in_ok-written.written in
    let asks = inquires-last _ plan_of_written _ _ _ _ written (Ok written) c.in_ok-written.ensures refl in
    let accepted = accepted-after _ task _ _ written asks in
    let wrote = subst (λ paths. WritesOutputs written.included.items paths (observed_texts written.outputs.items) (g.T.Tree.state c.assemble.new.tree)
    (g.T.Tree.state c.write_outputs.new.tree) c.write_outputs.result)
    (sym (plan-outputs _ task _ accepted ∙ observed_paths written.outputs.items)) c.write_outputs.ensures in
    rw c.and.ensures (λ out err. does-behind _ task _ _ out err _ _ written asks
    (does-write task _ _ out err (observed_texts written.outputs.items) written.included.items accepted c.write_outputs.result wrote))
