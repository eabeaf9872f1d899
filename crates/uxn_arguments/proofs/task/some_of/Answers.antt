use Rattle.std.proofs.Common.{[], take, take_all}
use Rattle.std.specs.Prelude.{option_to_list}
use Rattle.std.proofs.lemmas.List.{flat_map_more, take_more}
use Rattle.uxn_arguments.proofs.task.some_of.Goals as goal

pub loop-path-preserved : goal.loop-path-preserved
loop-path-preserved c =
    let taken = take_more c.args.paths.now c.loop-path.path-index c.path-item.result c.loop-path-test.true in
    rw (c.in_ok-push_some.ensures, c.loop-path.invariant, taken, ← c.path-item.is)
    (flat_map_more option_to_list [] (take c.loop-path.path-index c.args.paths.now) c.path-item.result)

pub returns : goal.returns
returns c = rw (take_all c.loop-path.path-index c.args.paths.now c.loop-path-test.false) at c.loop-path.invariant
