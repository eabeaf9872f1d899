-- Labels by their addresses (profile).
use Rattle.std.specs.Prelude.{ℕ, max, Bool, true, ◌==◌, nat_le, nat_lt, List, [], ◌∷◌, filter, find, Option, Some, None}
use Rattle.tal_words.specs.declared.name.Label.{Label}

-- the labels whose addresses are not above an address
abbrev pub labels_up_to : List Label → ℕ → List Label
labels_up_to labels address = filter (λ label. nat_le label.address address) labels

-- the greatest address of some labels
abbrev pub greatest_address : List Label → ℕ
greatest_address [] = 0
greatest_address (label ∷ labels) = max label.address (greatest_address labels)

-- the nearest label: of those not above the address the first that has the greatest address
abbrev pub first_of_greatest : List Label → Option Label
first_of_greatest labels = find (λ label. label.address == greatest_address labels) labels

abbrev pub nearest_label : List Label → ℕ → Option Label
nearest_label labels address = first_of_greatest (labels_up_to labels address)

-- a label lies below an address, or there is none
abbrev pub lies_below : Option Label → ℕ → Bool
lies_below None address = true
lies_below (Some label) address = nat_lt label.address address
