-- The nearest label among one label more.
use Rattle.std.proofs.Common.{◌≡◌, ℕ, ◌<◌, ◌≤◌, Bool, true, false, cond, max, List, [], ◌∷◌, ◌++◌, Option, Some, None, refl, ap, sym, ◌∙◌}
use Rattle.std.proofs.Common.{arith, append-nil}
use Rattle.std.specs.Prelude.{◌==◌, nat_le, find}
use Rattle.std.proofs.lemmas.Bool.{le-leb, lt-leb, eq-eqb}
use Rattle.std.proofs.lemmas.Bool.Decides.{nat_tests}
use Rattle.std.proofs.lemmas.List.Elements.{filter-append}
use Rattle.std.proofs.lemmas.List.Folds.{find-append}
use Rattle.tal_words.specs.declared.name.Label.{Label}
use Rattle.tal_symbols.specs.Lookups.{labels_up_to, greatest_address, first_of_greatest, nearest_label, lies_below}

abbrev at_address : ℕ → Label → Bool
at_address address label = label.address == address

greatest-push : (labels : List Label) (label : Label) → greatest_address (labels ++ label ∷ []) ≡ max (greatest_address labels) label.address
greatest-push [] label = omega arith
greatest-push (first ∷ labels) label = omega (arith, greatest-push labels label)

-- no label has an address above the greatest
none_above : (labels : List Label) (address : ℕ) → greatest_address labels < address → find (at_address address) labels ≡ None
none_above [] address above = refl
none_above (first ∷ labels) address above = grind (arith, nat_tests, none_above labels address)

-- a label that is found has the address that is looked for
found_at : (labels : List Label) (address : ℕ) (label : Label) → find (at_address address) labels ≡ Some label → label.address ≡ address
found_at [] address label e = cc
found_at (first ∷ labels) address label e = grind (arith, nat_tests, found_at labels address label)

-- the greatest address is that of a label
none_found : (labels : List Label) (address : ℕ) → greatest_address labels ≡ address → find (at_address address) labels ≡ None → labels ≡ []
none_found [] address greatest e = refl
none_found (first ∷ []) address greatest e = grind (arith, nat_tests)
none_found (first ∷ second ∷ labels) address greatest e = grind (arith, nat_tests, none_found (second ∷ labels) address)

-- one label more that is not above the greatest
keeps_first : (labels : List Label) (label found : Label) → first_of_greatest labels ≡ Some found → label.address ≤ found.address
    → first_of_greatest (labels ++ label ∷ []) ≡ Some found
keeps_first labels label found e low =
    let either = find-append (at_address (greatest_address labels)) labels (label ∷ []) in
    grind (arith, nat_tests, found_at labels (greatest_address labels) found e, greatest-push labels label, either)

-- one label more that lies above the greatest
takes_above : (labels : List Label) (label : Label) → greatest_address labels < label.address → first_of_greatest (labels ++ label ∷ []) ≡ Some label
takes_above labels label above =
    grind (arith, nat_tests, greatest-push labels label, find-append (at_address label.address) labels (label ∷ []), none_above labels label.address)

takes_first : (label : Label) → first_of_greatest (label ∷ []) ≡ Some label
takes_first label = rw (eq-eqb label.address (max label.address 0) (omega arith)) refl

-- which label is the nearest with one label more
nearer : (labels : List Label) (label : Label) (known : Option Label) → first_of_greatest labels ≡ known
    → first_of_greatest (labels ++ label ∷ []) ≡ cond (lies_below known label.address) (Some label) known
nearer labels label None e = rw (none_found labels (greatest_address labels) refl e) (takes_first label)
nearer labels label (Some found) e =
    grind (arith, nat_tests, found_at labels (greatest_address labels) found, takes_above labels label, keeps_first labels label found)

module _ (labels : List Label) (label : Label) (address : ℕ) (known : Option Label) (so_far : known ≡ nearest_label labels address) where
  -- a label that lies above the address is ignored
  pub passed_over : address < label.address → known ≡ nearest_label (labels ++ label ∷ []) address
  passed_over above =
      rw (filter-append (λ (l : Label). nat_le l.address address) labels (label ∷ []), lt-leb label.address address above, append-nil) so_far

  one_more : label.address ≤ address → labels_up_to (labels ++ label ∷ []) address ≡ labels_up_to labels address ++ label ∷ []
  one_more low = filter-append (λ (l : Label). nat_le l.address address) labels (label ∷ []) ∙ rw (le-leb label.address address low) refl

  module _ (low : label.address ≤ address) where
    next : nearest_label (labels ++ label ∷ []) address ≡ cond (lies_below known label.address) (Some label) known
    next = ap first_of_greatest (one_more low) ∙ nearer (labels_up_to labels address) label known (sym so_far)

    pub taken : lies_below known label.address ≡ true → Some label ≡ nearest_label (labels ++ label ∷ []) address
    taken below = sym (next ∙ rw below refl)

    pub kept : lies_below known label.address ≡ false → known ≡ nearest_label (labels ++ label ∷ []) address
    kept above = sym (next ∙ rw above refl)
