use Rattle.uxn_cli.proofs.Common.{Err, None, Some, TreeFault, false, refl, rules, true, ◌≡◌, drop_all, drop_more}
use Rattle.uxn_cli.specs.declared.task_files.refusal.Halt.TheVariants.{Stopped}
use Rattle.uxn_cli.proofs.DidLemmas.{did-nothing, make-failed, make-then, can-then, is-unknown, make-refused, unknown-before}
use Rattle.uxn_cli.proofs.FreeLemmas.{output_among}
use Rattle.uxn_cli.proofs.task_files.outputs.make_all.Goals as goal

pub loop-output-init : goal.loop-output-init
loop-output-init g c = record { rest = λ failed refused now did. did; can = c.requires; unknown = λ none. none }

pub returns-in_err-create : goal.returns-in_err-create
returns-in_err-create g c =
    let made = c.in_err-create.ensures in
    let left = drop_more c.args.outputs.now c.loop-output.output-index c.output-item.result c.loop-output-test.true in
    let can = rw (left, ← c.output-item.is) at c.loop-output.invariant.can in
    let result : c.from_residual.result ≡ Err (Stopped TreeFault) = search rules in
    rw result (c.loop-output.invariant.rest true None _ (rw (left, ← c.output-item.is) (make-failed c.output-item.result _ _ _ can made.ended made.refused)))

pub returns-then-not-branch : goal.returns-then-not-branch
returns-then-not-branch g c =
    let made = c.in_ok-create.ensures in
    let left = drop_more c.args.outputs.now c.loop-output.output-index c.output-item.result c.loop-output-test.true in
    let can = rw (left, ← c.output-item.is) at c.loop-output.invariant.can in
    let none = is-unknown c.output-item.result _ (g.T.Tree.state c.loop-output.tree) (g.T.Tree.state c.create.new.self) can (rw c.if-not-branch.true at made.answer) in
    record {
      path = c.output-item.result.path;
      names = refl;
      did = c.loop-output.invariant.rest false (Some c.output-item.result.path) _ (rw (left, ← c.output-item.is) (make-refused c.output-item.result _ _ _ can made.ended (rw c.if-not-branch.true at made.refused) none));
      unmade = record {
        unknown = c.loop-output.invariant.unknown none;
        among = output_among c.args.outputs.now c.loop-output.output-index c.output-item.result c.loop-output-test.true c.output-item.is;
      };
    }

pub loop-output-preserved : goal.loop-output-preserved
loop-output-preserved g c =
    let made = c.in_ok-create.ensures in
    let left = drop_more c.args.outputs.now c.loop-output.output-index c.output-item.result c.loop-output-test.true in
    let can = rw (left, ← c.output-item.is) at c.loop-output.invariant.can in
    let is_made : c.in_ok-create.field-0 ≡ true = search rules in
    record {
      rest = λ failed refused now did. c.loop-output.invariant.rest failed refused now (rw (left, ← c.output-item.is) (make-then c.output-item.result _ _ _ can made.ended
          (rw is_made at made.refused) failed refused now did));
      can = can-then c.output-item.result _ _ _ can made.ended;
      unknown = λ none. c.loop-output.invariant.unknown (unknown-before _ _ _ made.ended none);
    }

pub returns : goal.returns
returns g c =
    c.loop-output.invariant.rest false None _ (rw (drop_all c.loop-output.output-index c.args.outputs.now c.loop-output-test.false) (did-nothing (g.T.Tree.state c.loop-output.tree)))
