-- Chains of labels, one label at a time.
use Rattle.std.proofs.Common.{◌≡◌, ℕ, ◌+◌, ◌<◌, false, List, length, get_or, set, replicate, inl, inr, refl, ap, sym, ◌∙◌, arith, get_or-set_same, get_or-set_other, ◌-◌}
use Rattle.std.specs.Prelude.{◌==◌}
use Rattle.std.proofs.lemmas.Bool.{cases_eq, ne_eqb}
use Rattle.std.proofs.lemmas.List.{drop_more, get_or-replicate, length-replicate, length-set, get_or_default, get_or_read}
use Rattle.tal_words.specs.declared.name.Label.{Label}
use Rattle.tal_listing.specs.LabelChains.{AreChained}
use Rattle.tal_listing.proofs.chains.LabelChains.new.Goals as goal

-- behind the last label no chain has begun
chained_start : (labels : List Label) (first next : List ℕ) (count : ℕ) → count ≡ 65536 → first ≡ replicate count (length labels)
    → next ≡ replicate (length labels) (length labels) → AreChained labels (length labels) first next
chained_start labels first next count all is_first is_next = record {
  first_size = ap length is_first ∙ length-replicate count (length labels) ∙ all;
  next_size = ap length is_next ∙ length-replicate (length labels) (length labels);
  firsts = λ address below.
      rw (is_first, get_or-replicate count address (length labels) 0 (omega arith)) (record { ahead = omega arith; within = omega arith; skipped = refl; found = λ d past. absurd (omega arith) });
  nexts = λ place d from within. absurd (omega arith);
}

-- one more label, from the end: the chain of its own address begins with it, and that of another address passes over it
chained_more : (labels : List Label) (place : ℕ) (d : Label) (first next : List ℕ) (from head : ℕ) → place < length labels → from ≡ place + 1
    → (get_or labels place d).address < 65536 → head ≡ get_or first (get_or labels place d).address 0 → AreChained labels from first next
    → AreChained labels place (set first (get_or labels place d).address place) (set next place head)
chained_more labels place d first next from head within is_from below is_head chained =
    let address = (get_or labels place d).address in
    let firsts = rw is_from at chained.firsts in
    record {
      first_size = length-set first address place ∙ chained.first_size;
      next_size = length-set next place head ∙ chained.next_size;
      firsts = λ other other_below. elim (cases_eq other address) [
        | inl same ↦
            let found = λ (e : Label) (inside : place < length labels). ap (λ (l : Label). l.address) (get_or_default labels place e d within) in
            rw (same, get_or-set_same first address place 0 (omega (arith, chained.first_size)))
            (record { ahead = omega arith; within = omega arith; skipped = refl; found = found })
        | inr differ ↦
            let is = firsts other other_below in
            let no : (address == other) ≡ false = ne_eqb address other (λ same. differ (sym same)) in
            rw (get_or-set_other first address other place 0 differ)
            (record { ahead = omega (arith, is.ahead); within = is.within; skipped = rw (drop_more labels place d within, no) is.skipped; found = is.found })
      ];
      nexts = λ at e after inside. elim (cases_eq at place) [
        | inl same ↦
            rw (same, get_or-set_same next place head 0 (omega (arith, chained.next_size)), is_head, ← get_or_default labels place d e within) (firsts address below)
        | inr differ ↦ rw (get_or-set_other next place at head 0 differ) (chained.nexts at e (omega arith) inside)
      ];
    }

pub loop-place-init : goal.loop-place-init
loop-place-init c =
    chained_start c.args.labels.now c.in_ok-first.first.items c.in_ok-next.next.items 65536 refl
    (c.in_ok-first.ensures.items_if_clones_equal (λ y e. e)) (c.in_ok-next.ensures.items_if_clones_equal (λ y e. e))

pub loop-place-preserved : goal.loop-place-preserved
loop-place-preserved c =
    let first = c.loop-place.first.items in
    let place = c.loop-place.place - 1 in
    let address = (get_or c.args.labels.now place c.index-labels-place.result).address in
    let below : address < 65536 = omega (arith, c.index-labels-place.element_fits) in
    let read = get_or_read first address c.index.result.now (omega (arith, c.loop-place.invariant.first_size, below)) c.index.ensures 0 in
    chained_more c.args.labels.now place c.index-labels-place.result first c.loop-place.next.items c.loop-place.place c.index.result.now
    (omega arith) (omega arith) below read c.loop-place.invariant

pub returns : goal.returns
returns c = let start : c.loop-place.place ≡ 0 = omega arith in rw start at c.loop-place.invariant
