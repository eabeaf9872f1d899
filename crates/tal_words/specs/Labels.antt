-- Labels by their names (profile).
use Rattle.std.specs.Prelude.{ℕ, List, find, Option}
use Rattle.std.specs.Option.{option_map}
use Rattle.std.specs.Str.{bytes_eq}
use Rattle.tal_words.specs.declared.name.Label.{Label}

-- the address of the first label of a name
abbrev pub address_named : List Label → List ℕ → Option ℕ
address_named labels name = option_map (λ label. label.address) (find (λ label. bytes_eq name label.name) labels)
