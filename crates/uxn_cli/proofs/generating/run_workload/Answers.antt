use Rattle.uxn_cli.proofs.Clauses.Works.Changes.Names.{◌≡◌, ◌∙◌, ap, refl, run_summary, IfOk-weaker, USUAL_BUDGET, put_by, summary_text, run_end}
unfoldable use Rattle.uxn_cli.proofs.Clauses.Works.Changes.Names.{workload_text}
use Rattle.uxn_line.specs.Streams.{run_of}
use Rattle.uxn_cli.proofs.generating.run_workload.Goals as goal

pub returns : goal.returns
unfolding workload_text
returns c =
    let whole = run_of USUAL_BUDGET c.args.rom.now c.args.script in
    let ran = c.in_ok-end.ensures in
    let summary = run_summary c.args.source.now c.args.rom.now in
    let contents : summary c.in_ok-end.end c.run_rom.new.out.taken ≡ summary (run_end whole.last) (put_by whole.changes) =
    rw (ran.ends, ran.bytes) refl in
    IfOk-weaker c.summary.result _ _ (λ text is. is ∙ ap summary_text contents) (rw c.bytes.ensures at c.summary.ensures)
