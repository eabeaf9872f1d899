-- The symbol file of labels (profile).
use Rattle.std.specs.Prelude.{ℕ, ◌/◌, ◌%◌, Bool, not, ◌&&◌, nat_lt, List, [], ◌∷◌, ◌++◌, length}
use Rattle.std.specs.List.{flat_map, list_any, list_all}
use Rattle.tal_words.specs.declared.name.Label.{Label}
use Rattle.tal_words.specs.Source.{is_blank}

-- the entry of a label: its address, the high byte first, its name, and a zero byte
abbrev pub entry : Label → List ℕ
entry label = label.address / 256 ∷ label.address % 256 ∷ (label.name ++ 0 ∷ [])

-- the symbol file: the entry of each label, in order
abbrev pub symbol_file : List Label → List ℕ
symbol_file labels = flat_map entry labels

-- the name of a label can be read back: it is not empty, and has no byte up to a space
abbrev pub is_readable : Label → Bool
is_readable label = nat_lt 0 (length label.name) && not (list_any is_blank label.name)

abbrev pub are_readable : List Label → Bool
are_readable labels = list_all is_readable labels
