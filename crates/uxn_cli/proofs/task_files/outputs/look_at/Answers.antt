use Rattle.uxn_cli.proofs.Common.{Err, Ok, rules, ◌≡◌, refl, drop_all, drop_more, leads-stop, leads-said, leads-more}
use Rattle.uxn_io_traits.specs.AskingLaws.{leads-start}
use Rattle.uxn_cli.proofs.task_files.outputs.look_at.Goals as goal

pub loop-output-init : goal.loop-output-init
loop-output-init g c = leads-start _ _

pub returns-in_err-accept_output : goal.returns-in_err-accept_output
returns-in_err-accept_output g c =
    let left = drop_more c.args.outputs.now c.loop-output.output-index c.output-item.result c.loop-output-test.true in
    let result : c.from_residual.result ≡ Err c.in_err-accept_output.field-0.0 = search rules in
    rw result (leads-stop _ _ _ _ _ _ _ _ _ (rw (left, ← c.output-item.is) at c.loop-output.invariant) c.in_err-accept_output.ensures)

pub loop-output-preserved : goal.loop-output-preserved
loop-output-preserved g c =
    let left = drop_more c.args.outputs.now c.loop-output.output-index c.output-item.result c.loop-output-test.true in
    leads-more _ _ _ _ _ _ _ _ (rw (left, ← c.output-item.is) at c.loop-output.invariant) c.in_ok-accept_output.ensures

pub returns : goal.returns
returns g c =
    let none = drop_all c.loop-output.output-index c.args.outputs.now c.loop-output-test.false in
    leads-said _ _ (Ok tt) _ _ (Ok tt) (rw none at c.loop-output.invariant) refl
