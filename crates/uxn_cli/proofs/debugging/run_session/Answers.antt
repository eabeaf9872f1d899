use Rattle.uxn_cli.proofs.Clauses.Works.{requested_output, outside-of-tree, is_err, ◌≡◌, ◌∙◌, refl, ap, rules, Err, Some, log_over, first_state, RootView, Watching}
unfoldable use Rattle.uxn_cli.proofs.Clauses.Works.{reference_trace}
use Rattle.uxn_cli.proofs.Clauses.Works.{refuses-then, filled-of-tree, runs-as, runs-first, runs-then, stays-if}
use Rattle.uxn_cli.proofs.debugging.run_session.Goals as goal

pub returns-in_err-end-clause-runs : goal.returns-in_err-end-clause-runs
returns-in_err-end-clause-runs g c =
    let result : c.from_residual.result ≡ Err c.in_err-end.field-0.0 = search rules in
    rw result (runs-first _ _ _ _ _ _ _ _
    (runs-as _ _ _ _ _ _ _ _ (Err c.in_err-end.field-0.0) (λ trace. refl) (λ watched. refl) c.in_err-end.ensures.runs))

pub write_text-requires : goal.write_text-requires
write_text-requires g c =
    stays-if c.args.run.now.root (Some c.args.session.task.log) _ _ c.in_ok-end.ensures.runs.files c.requires.log

pub returns-clause-runs : goal.returns-clause-runs
unfolding reference_trace
returns-clause-runs g c =
    let commands = c.args.session.commands.items in
    let labels = c.args.session.labels.items in
    let new = rw c.deref.ensures.value at c.with_undo-debugger.ensures in
    let keeps = c.the_log_is_that_of_the_run.ensures.runs commands labels _ _ c.args.machine.now.script in
    let begun = first_state c.args.machine.now.core c.args.machine.now.script in
    rw (c.or.ensures, c.and.ensures)
    (runs-then _ _ _ _ _ (Some c.args.session.task.log) _ (log_over labels commands) _ _ c.in_ok-end.end
    (runs-as _ _ _ _ _ _ _ _ _ (λ trace. refl) (λ watched. refl) c.in_ok-end.ensures.runs)
    (λ (root_view : RootView) root files. c.log.ensures
    ∙ ap (λ (held : Watching). held.log) (rw new at (c.in_ok-end.ensures.watcher root_view root files))
    ∙ keeps (begun root_view) c.core_known.ensures refl)
    c.write_text.result
    (outside-of-tree _ (is_err c.write_text.result) _ _ (g.O.Sink.state c.run_made.new.host.out.now) (g.E.Sink.state c.run_made.new.host.err.now)
    (filled-of-tree (requested_output (Some c.args.session.task.log) c.log.result.now)) c.write_text.ensures.ended))

pub returns-clause-refusals : goal.returns-clause-refusals
returns-clause-refusals g c = λ none. refuses-then _ _ _ (c.in_ok-end.ensures.refusals none) c.write_text.ensures.refused
