use Rattle.uxn_cli.proofs.Clauses.Works.{◌≡◌, ◌∙◌, ap, sym, subst, rules, Err, false, is_err, outside-of-tree, requested_output, exit_code_at}
use Rattle.uxn_cli.proofs.Clauses.Works.{report_text, AreNew, refuses-then, filled-of-tree, runs-at, runs-first, runs-then, shown-then, stays-if}
use Rattle.std.specs.FinMap as fin
use Rattle.uxn_cli.proofs.running.run_made.Goals as goal

pub run_machine-requires-clause-devices : goal.run_machine-requires-clause-devices
run_machine-requires-clause-devices g c =
    subst (AreNew c.args.machine.now.devices c.args.machine.now.script) (sym (c.requires.devices fin.empty false).root) c.requires.devices

pub run_machine-requires-clause-outputs : goal.run_machine-requires-clause-outputs
run_machine-requires-clause-outputs g c =
    rw (c.requires.devices fin.empty false).root
    (record { frames = c.requires.files.frames; samples = c.requires.files.samples })

pub returns-in_err-end-clause-runs : goal.returns-in_err-end-clause-runs
returns-in_err-end-clause-runs g c =
    let result : c.from_residual.result ≡ Err c.in_err-end.field-0.0 = search rules in
    let held = (c.requires.devices fin.empty false).root in
    rw result (runs-first _ _ _ _ _ _ _ _ (runs-at _ _ _ _ _ _ _ _ held c.in_err-end.ensures.runs))

pub write_text-requires : goal.write_text-requires
write_text-requires g c =
    let held = (c.requires.devices fin.empty false).root in
    stays-if c.args.task.now.root c.args.task.now.report _ _ (rw held at c.in_ok-end.ensures.runs.files) c.requires.files.report

pub returns-clause-runs : goal.returns-clause-runs
returns-clause-runs g c =
    let held = (c.requires.devices fin.empty false).root in
    let version = c.args.machine.now.script.version in
    let runs = runs-at _ _ _ _ _ _ _ _ held c.in_ok-end.ensures.runs in
    rw (c.or.ensures, c.and.ensures)
    (runs-then _ _ _ _ _ c.args.task.now.report _ (λ trace. report_text version (exit_code_at trace.last) trace.last.tally) _ _ c.in_ok-end.end
    runs
    (λ root_view root files. ap (λ end. report_text version end.exit end.tally) (runs.from root_view root files).ends) c.write_text.result
    (outside-of-tree _ (is_err c.write_text.result) _ _ (g.O.Sink.state c.run_machine.new.host.out.now)
    (g.E.Sink.state c.run_machine.new.host.err.now)
    (filled-of-tree (requested_output c.args.task.now.report (report_text version c.in_ok-end.end.exit c.in_ok-end.end.tally)))
    (rw (c.deref.ensures.0 ∙ rw c.version_kind-version.ensures at c.report-text.ensures) at c.write_text.ensures.ended)))

pub returns-clause-watcher : goal.returns-clause-watcher
returns-clause-watcher g c = λ root_view root files.
    let held = (c.requires.devices fin.empty false).root in
    rw (c.or.ensures, c.and.ensures)
    (shown-then _ c.write_text.result c.in_ok-end.end
    (c.in_ok-end.ensures.watcher root_view (root ∙ sym held) files))

pub returns-in_err-end-clause-refusals : goal.returns-in_err-end-clause-refusals
returns-in_err-end-clause-refusals g c =
    λ none. (let refusals = c.in_err-end.ensures.refusals ((c.requires.devices fin.empty false).root ∙ none) in search (rules, refusals))

pub returns-clause-refusals : goal.returns-clause-refusals
returns-clause-refusals g c = λ none. refuses-then _ _ _ (c.in_ok-end.ensures.refusals ((c.requires.devices fin.empty false).root ∙ none))
    c.write_text.ensures.refused
