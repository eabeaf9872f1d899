-- Labels in tables, by their addresses and by their names.
use Rattle.std.specs.Prelude.{◌≡◌, ℕ, zero, suc, ◌<◌, ◌≤◌, ◌==◌, List, length, find, Option, None, slice_get, slice_index}
use Rattle.std.specs.Map.{lookup}
use Rattle.std.specs.Str.{bytes_eq}
use Rattle.tal_words.specs.declared.name.Label.{Label}
use Rattle.tal_words.specs.Labels.{address_named}
use Rattle.tal_symbols.specs.Lookups.{nearest_label}

-- the label of a number: one more than its index, and 0 where there is none
abbrev pub numbered : List Label → ℕ → Option Label
numbered labels zero = None
numbered labels (suc index) = slice_get labels index

-- the first label at an address
abbrev pub label_at : List Label → ℕ → Option Label
label_at labels address = find (λ label. label.address == address) labels

-- the numbers of the first of some of the labels at each address
pub record AreFirst (labels some : List Label) (numbers : List ℕ) : Type 0 where
  pub first : (address : ℕ) → address < length numbers → numbered labels (slice_index numbers address) ≡ label_at some address
  pub within : (address : ℕ) → slice_index numbers address ≤ length labels

-- the numbers of the nearest label of each address, as far as there are numbers
abbrev pub AreNearest : List Label → List ℕ → Type 0
AreNearest labels numbers =
    (address : ℕ) → address < length numbers → numbered labels (slice_index numbers address) ≡ nearest_label labels address

-- the addresses of the first labels of all names, by keys of these texts
abbrev pub AreAddresses : {K : Type 0} → (K → List ℕ) → List Label → List (K × ℕ) → Type 0
AreAddresses text labels entries =
    (name : List ℕ) → lookup (λ key. bytes_eq name (text key)) entries ≡ address_named labels name
