use Rattle.uxn_cli.proofs.Clauses.Works.{◌≡◌, ◌∙◌, rules, Ok, Err, [], ap, sym, model_of_program, inquires-stop, inquires-last, halt_of_inquiry, paths_of, prepared_plan}
use Rattle.uxn_cli.proofs.Clauses.Works.{accepted-after, does-behind, does-unmade, halted-unready, NoMemory, Stopped, OutOfMemory}
unfoldable use Rattle.uxn_cli.proofs.Clauses.Works.{run_plan_of}
use Rattle.uxn_arguments.specs.declared.task.Task.TheVariants as tasks
use Rattle.uxn_cli.proofs.playing.prepare.Goals as goal

pub returns-in_err-inputs : goal.returns-in_err-inputs
unfolding run_plan_of
returns-in_err-inputs g c =
    let run = c.args.run.now in
    let result : c.from_residual.result ≡ Err (halt_of_inquiry c.in_err-inputs.field-0.0) = search rules in
    rw result (λ out err. halted-unready (prepared_plan run []) (tasks.Run run c.args.debug.now) _ _ out err c.in_err-inputs.field-0.0
    (inquires-stop _ _ _ _ _ _ _ c.in_err-inputs.ensures.reads))

pub returns-in_err-prepared : goal.returns-in_err-prepared
unfolding run_plan_of
returns-in_err-prepared g c =
    let run = c.args.run.now in
    let result : c.from_residual-in_err-prepared.result ≡ Err (Stopped NoMemory) = search rules in
    rw result (λ out err. halted-unready (prepared_plan run []) (tasks.Run run c.args.debug.now) _ _ out err OutOfMemory
    (inquires-last _ _ _ _ _ _ _ (Err OutOfMemory) c.in_ok-inputs.ensures.reads tt))

pub make_outputs-requires : goal.make_outputs-requires
make_outputs-requires g c = record {
  task = tasks.Run c.args.run.now c.args.debug.now;
  apart = c.requires;
  outputs = ap paths_of c.deref-2.ensures.value ∙ c.in_ok-prepared.ensures.ready.outputs;
}

pub returns-in_err-make_outputs : goal.returns-in_err-make_outputs
unfolding run_plan_of
returns-in_err-make_outputs g c =
    let run = c.args.run.now in
    let task = tasks.Run run c.args.debug.now in
    let result : c.from_residual-in_err-make_outputs.result ≡ Err c.in_err-make_outputs.field-0.0 = search rules in
    let plan = prepared_plan run (model_of_program c.in_ok-inputs.inputs.program).rom in
    let asks = inquires-last _ plan _ _ _ _ _ (Ok c.in_ok-prepared.prepared) c.in_ok-inputs.ensures.reads (ap Ok (sym c.in_ok-prepared.ensures.plan)) in
    let made = rw (c.deref.ensures.value, c.deref-2.ensures.value, c.in_ok-prepared.ensures.ready.outputs) at c.in_err-make_outputs.ensures in
    rw result (λ out err. does-behind plan task _ _ out err _ _ c.in_ok-prepared.prepared asks
    (does-unmade task _ _ _ (accepted-after plan task _ _ c.in_ok-prepared.prepared asks) _ out err c.in_err-make_outputs.field-0.0 made))

pub returns : goal.returns
unfolding run_plan_of
returns g c = record {
  start = g.T.Tree.state c.read_run.new.tree;
  rom = (model_of_program c.in_ok-inputs.inputs.program).rom;
  asks = inquires-last _ _ _ _ _ _ _ _ c.in_ok-inputs.ensures.reads (ap Ok (sym c.in_ok-prepared.ensures.plan));
  ready = c.in_ok-prepared.ensures.ready;
  makes = rw (c.deref.ensures.value, c.deref-2.ensures.value, c.in_ok-prepared.ensures.ready.outputs) at c.in_ok-make_outputs.ensures;
}
