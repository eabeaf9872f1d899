use Rattle.uxn_cli.proofs.Common.{refl, map-append, take_all, take_more}
use Rattle.uxn_cli.proofs.task_files.making.empty_outputs.Goals as goal

pub loop-path-preserved : goal.loop-path-preserved
loop-path-preserved c =
    let taken = take_more c.args.paths.now c.loop-path.path-index c.path-item.result c.loop-path-test.true in
    rw (c.in_ok-push_output.ensures, map-append, c.loop-path.invariant, taken, ← c.path-item.is) refl

pub returns : goal.returns
returns c = rw (take_all c.loop-path.path-index c.args.paths.now c.loop-path-test.false) at c.loop-path.invariant
