use Rattle.tal_labels.proofs.Common.{is_some, arith, ◌∙◌, ap, sym, length, Some}
use Rattle.tal_labels.proofs.ShapeLemmas.{length-closers_of, nothing_shaped, next_shaped, faulty_shape, all_shaped}
use Rattle.tal_labels.proofs.shapes.check_shapes.Goals as goal

pub loop-k-init : goal.loop-k-init
loop-k-init c = nothing_shaped c.args.source.now c.args.words.now

pub index-requires : goal.index-requires
index-requires c = omega (arith, ap length c.in_ok-closers.ensures, length-closers_of c.args.source.now c.args.words.now)

pub returns-in-Err : goal.returns-in-Err
returns-in-Err c =
    faulty_shape c.args.source.now c.args.words.now c.loop-k.k c.text-text.result.now c.loop-k.depth c.is_some.result c.index.result.now c.in_ok-closers.closers.items
    (omega arith) c.in_ok-closers.ensures c.text-text.ensures (c.is_some.ensures ∙ ap is_some c.index.ensures) c.loop-k.invariant c.in-Err.kind c.in-Err.ensures
    ∙ sym (ap Some c.new.ensures)

pub loop-k-preserved : goal.loop-k-preserved
loop-k-preserved c =
    next_shaped c.args.source.now c.args.words.now c.loop-k.k c.text-text.result.now c.loop-k.depth c.is_some.result c.index.result.now c.in_ok-closers.closers.items
    (omega arith) c.in_ok-closers.ensures c.text-text.ensures (c.is_some.ensures ∙ ap is_some c.index.ensures) c.loop-k.invariant
    c.open_after-depth.result c.in_default.ensures.1 c.open_after-depth.ensures.value c.open_after-depth.ensures.small

pub returns : goal.returns
returns c = all_shaped c.args.source.now c.args.words.now c.loop-k.k c.loop-k.depth (omega arith) c.loop-k.invariant
