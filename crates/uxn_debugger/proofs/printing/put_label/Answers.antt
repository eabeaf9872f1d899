use Rattle.std.proofs.Common.{◌≡◌, ℕ, ◌≤◌, Bool, List, [], ◌∷◌, Some, sym, arith, rules}
use Rattle.std.specs.List.{find}
use Rattle.std.proofs.lemmas.Bool.{leb-true}
use Rattle.tal_words.specs.declared.name.Label.{Label}
use Rattle.tal_symbols.specs.Lookups.{labels_up_to}
use Rattle.uxn_debugger.proofs.printing.put_label.Goals as goal

-- one that is found among those up to an address is not above it
found_up_to : (test : Label → Bool) (labels : List Label) (address : ℕ) (label : Label) → find test (labels_up_to labels address) ≡ Some label → label.address ≤ address
found_up_to test [] address label is = absurd (cc)
found_up_to test (first ∷ labels) address label is = search (arith, rules, leb-true, found_up_to test labels)

pub overflow_sub-address : goal.overflow_sub-address
overflow_sub-address c = found_up_to _ c.args.labels.now c.args.address c.in-Some.label.now (sym c.in-Some.ensures)
