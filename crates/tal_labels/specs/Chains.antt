-- Indices in chains by the remainders of their hashes.
use Rattle.std.specs.Prelude.{◌≡◌, ◌<◌, ◌≤◌, ℕ, ◌-◌, ◌%◌, List, length, slice_index}

-- for each kind of hash one more than the last index of that kind, or 0, and for each index one more than the last index of its kind
-- before it, or 0
pub record AreInChains (kind : ℕ → ℕ) (hashes lasts nexts : List ℕ) : Type 0 where
  pub size : length nexts ≡ length hashes
  pub lasts_within : (at : ℕ) → at < length lasts → slice_index lasts at ≤ length hashes
  pub lasts_alike : (at : ℕ) → at < length lasts → 0 < slice_index lasts at → kind (slice_index hashes (slice_index lasts at - 1)) ≡ at
  pub lasts_skip : (at i : ℕ) → at < length lasts → slice_index lasts at ≤ i → i < length hashes → kind (slice_index hashes i) ≡ at → ⊥
  pub nexts_within : (k : ℕ) → k < length hashes → slice_index nexts k ≤ k
  pub nexts_alike : (k : ℕ) → k < length hashes → 0 < slice_index nexts k
      → kind (slice_index hashes (slice_index nexts k - 1)) ≡ kind (slice_index hashes k)
  pub nexts_skip : (k i : ℕ) → k < length hashes → slice_index nexts k ≤ i → i < k
      → kind (slice_index hashes i) ≡ kind (slice_index hashes k) → ⊥

-- the same by remainders
abbrev pub AreChained : List ℕ → List ℕ → List ℕ → Type 0
AreChained hashes lasts nexts = AreInChains (λ hash. hash % length lasts) hashes lasts nexts
