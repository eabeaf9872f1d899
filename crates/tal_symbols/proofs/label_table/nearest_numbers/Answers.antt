use Rattle.std.proofs.Common.{◌≡◌, ◌-◌, ◌∙◌, length, ap, arith}
use Rattle.std.proofs.lemmas.List.{length-set}
use Rattle.tal_symbols.proofs.TableLemmas.{Swept, swept_begun, swept_put, swept_kept, swept_all}
use Rattle.tal_symbols.proofs.label_table.nearest_numbers.Goals as goal
use Rattle.tal_symbols.proofs.label_table.nearest_numbers.Goals.{then-index-eq0, else-index-eq0}

pub loop-address-init : goal.loop-address-init
loop-address-init c = record {
  size = c.in_ok-numbers.ensures.size;
  swept = swept_begun c.args.labels.now c.in_ok-numbers.numbers.items c.in_ok-numbers.ensures.first (omega (arith, c.in_ok-numbers.ensures.size));
}

pub loop-address-preserved : goal.loop-address-preserved
loop-address-preserved c =
    let labels = c.args.labels.now in
    let numbers = c.loop-address.numbers.items in
    let at = c.loop-address.address in
    let inv = c.loop-address.invariant in
    elim c.if-index-eq0.branch [
      | then-index-eq0 w ↦ rw w.numbers-is (record {
        size = length-set numbers at w.index-then-index-eq0.result.now ∙ inv.size;
        swept = swept_put labels numbers at c.index.result.now w.index-then-index-eq0.result.now (c.loop-address.auto.address)
            (omega (arith, inv.size, c.loop-address-test.true)) c.index.ensures w.if-index-eq0.true w.index-then-index-eq0.ensures inv.swept;
      })
      | else-index-eq0 w ↦ rw w.numbers-is (record {
        size = inv.size;
        swept = swept_kept labels numbers at c.index.result.now (omega (arith, inv.size, c.loop-address-test.true)) c.index.ensures w.if-index-eq0.false inv.swept;
      })
    ]

pub returns : goal.returns
returns c = swept_all c.args.labels.now c.loop-address.numbers.items c.loop-address.address (omega (arith, c.loop-address.invariant.size)) c.loop-address.invariant.swept
