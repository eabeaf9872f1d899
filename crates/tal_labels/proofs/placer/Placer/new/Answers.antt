use Rattle.tal_labels.proofs.Common.{refl, sym, arith, le-ltb, added_fault, open_ones, scope_after, labels_of, address_after, ends_of, placed_of}
use Rattle.tal_labels.proofs.Common.{open_count}
use Rattle.tal_labels.proofs.placer.Placer.new.Goals as goal

pub returns : goal.returns
unfolding added_fault open_ones scope_after labels_of address_after ends_of placed_of open_count
returns c source = record {
  faulty = refl;
  kept = λ _. record {
    sound = refl;
    placed = c.new.ensures.items;
    labels = c.new-2.ensures;
    openers = c.new-3.ensures.items;
    scope = c.first.ensures source;
    address = refl;
    top = λ place. sym (le-ltb place 0 (omega arith));
    small = omega arith;
  };
}
