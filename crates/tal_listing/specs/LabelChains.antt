-- Labels in chains by their addresses.
use Rattle.std.specs.Prelude.{◌≡◌, ℕ, ◌+◌, ◌<◌, ◌≤◌, List, length, filter, ◌==◌, drop, slice_index}
use Rattle.std.specs.Prelude.{slice_index_or}
use Rattle.tal_words.specs.declared.name.Label.{Label}

-- the labels of an address
abbrev pub labels_of_address : ℕ → List Label → List Label
labels_of_address address labels = filter (λ label. label.address == address) labels

-- the first label of an address from one place on stands at another, and there is none where that is the end
pub record IsNext (labels : List Label) (address from place : ℕ) : Type 0 where
  pub ahead : from ≤ place
  pub within : place ≤ length labels
  pub skipped : labels_of_address address (drop from labels) ≡ labels_of_address address (drop place labels)
  pub found : (d : Label) → place < length labels → (slice_index_or labels place d).address ≡ address

-- the chains of the labels from a place on: for each address where its first label stands, and for each label where the next one of
-- the same address stands
pub record AreChained (labels : List Label) (from : ℕ) (first next : List ℕ) : Type 0 where
  pub first_size : length first ≡ 65536
  pub next_size : length next ≡ length labels
  pub firsts : (address : ℕ) → address < 65536 → IsNext labels address from (slice_index first address)
  pub nexts : (place : ℕ) (d : Label) → from ≤ place → place < length labels
      → IsNext labels (slice_index_or labels place d).address (place + 1) (slice_index next place)
