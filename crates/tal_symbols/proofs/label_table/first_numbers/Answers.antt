use Rattle.std.proofs.Common.{◌≡◌, ◌<◌, ◌∙◌, suc, sym, ap, arith, rules, replicate}
use Rattle.std.proofs.lemmas.List.{length-set}
use Rattle.tal_words.specs.declared.name.Label.{Label}
use Rattle.tal_symbols.proofs.TableLemmas.{none_size, none_first, put_first, all_first}
use Rattle.tal_symbols.proofs.label_table.first_numbers.Goals as goal

pub loop-less-init : goal.loop-less-init
loop-less-init c =
    let zeros : c.in_ok-numbers.numbers.items ≡ replicate 65536 0 = c.in_ok-numbers.ensures.items_if_clones_equal (λ y h. h) in
    record {
      size = none_size c.in_ok-numbers.numbers.items 65536 zeros;
      first = none_first c.args.labels.now c.in_ok-numbers.numbers.items 65536 zeros;
      within = omega arith;
    }

pub loop-less-preserved : goal.loop-less-preserved
loop-less-preserved c =
    let labels = c.args.labels.now in
    let numbers = c.loop-less.numbers.items in
    let label = c.index-labels-less.result in
    let inv = c.loop-less.invariant in
    let next : c.loop-less.left ≡ suc c.in-Some.less = omega (arith, c.in-Some.ensures) in
    let small : label.address < 65536 = search (arith, rules) in
    record {
      size = length-set numbers c.from.result c.loop-less.left ∙ inv.size;
      first = put_first labels numbers c.in-Some.less c.loop-less.left c.from.result label (c.from.ensures ∙ ap (λ (l : Label). l.address) (sym c.index-labels-less.is)) next inv.within c.index-labels-less.is (omega (arith, small, inv.size)) inv.first;
      within = omega (arith, next, inv.within);
    }

pub returns-clause-first : goal.returns-clause-first
returns-clause-first c =
    all_first c.args.labels.now c.loop-less.numbers.items c.loop-less.left (omega (arith, c.in_default.ensures)) c.loop-less.invariant.first
