-- The full names of labels.
use Rattle.std.specs.Prelude.{ℕ, List, map}
use Rattle.tal_words.specs.declared.name.Label.{Label}

abbrev pub names_of : List Label → List (List ℕ)
names_of labels = map (λ label. label.name) labels
