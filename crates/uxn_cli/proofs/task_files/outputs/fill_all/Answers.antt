use Rattle.uxn_cli.proofs.Common.{Err, None, TreeFault, false, rules, true, ◌≡◌, drop_all, drop_more, appending}
use Rattle.uxn_cli.specs.declared.task_files.refusal.Halt.TheVariants.{Stopped}
use Rattle.uxn_cli.proofs.DidLemmas.{did-nothing, did-first, did-then, file-there, files-then}
use Rattle.uxn_cli.proofs.task_files.outputs.fill_all.Goals as goal

pub loop-output-init : goal.loop-output-init
loop-output-init g c = record { rest = λ failed now did. did; files = c.requires }

pub append_all-requires : goal.append_all-requires
append_all-requires g c =
    let left = drop_more c.args.outputs.now c.loop-output.output-index c.output-item.result c.loop-output-test.true in
    file-there c.output-item.result _ (g.T.Tree.state c.loop-output.tree) (g.T.Tree.state c.loop-output.tree) (rw (left, ← c.output-item.is) at c.loop-output.invariant.files)

pub returns-in_err-append_all : goal.returns-in_err-append_all
returns-in_err-append_all g c =
    let output = c.output-item.result in
    let put = rw c.deref.ensures.value at c.in_err-append_all.ensures in
    let left = drop_more c.args.outputs.now c.loop-output.output-index output c.loop-output-test.true in
    let result : c.from_residual.result ≡ Err (Stopped TreeFault) = search rules in
    rw result (c.loop-output.invariant.rest true _ (rw (left, ← c.output-item.is) (did-first (appending output.path output.bytes.items) _ None _ _
    (record { done = put.ended; refusals = put.refused }))))

pub loop-output-preserved : goal.loop-output-preserved
loop-output-preserved g c =
    let output = c.output-item.result in
    let put = rw c.deref.ensures.value at c.in_ok-append_all.ensures in
    let left = drop_more c.args.outputs.now c.loop-output.output-index output c.loop-output-test.true in
    record {
      rest = λ failed now did. c.loop-output.invariant.rest failed now (rw (left, ← c.output-item.is) (did-then (appending output.path output.bytes.items) _ failed None _ _ now
          (record { done = put.ended; refusals = put.refused }) did));
      files = files-then output _ _ _ (rw (left, ← c.output-item.is) at c.loop-output.invariant.files) put.ended;
    }

pub returns : goal.returns
returns g c =
    c.loop-output.invariant.rest false _ (rw (drop_all c.loop-output.output-index c.args.outputs.now c.loop-output-test.false) (did-nothing (g.T.Tree.state c.loop-output.tree)))
