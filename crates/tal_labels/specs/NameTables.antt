-- Names that are kept without the scopes that they share.
use Rattle.std.specs.Prelude.{◌≡◌, ◌≤◌, ℕ, List, ◌++◌, length, map}
use Rattle.std.specs.List.{AllByRecursion}
use Rattle.tal_words.specs.declared.span.Span.{Span}
use Rattle.tal_words.specs.Source.{bytes_at}
use Rattle.tal_labels.specs.Hashes.{hash_of}
use Rattle.tal_labels.specs.declared.kept.Kept.{Kept}

-- the name that is kept: what it shares, and the rest
abbrev pub name_in : List ℕ → Kept → List ℕ
name_in bytes kept = bytes_at bytes kept.shared ++ bytes_at bytes kept.rest

-- both parts lie in so many bytes
abbrev pub IsWithin : ℕ → Kept → Type 0
IsWithin size kept = (kept.shared.end ≤ size) × (kept.rest.end ≤ size)

-- bytes were appended
pub record Grows (old new : List ℕ) : Type 0 where
  pub more : List ℕ
  pub is : new ≡ old ++ more

-- a name was kept, behind others, and its scope
pub record IsAdded (new name : List ℕ) (kept : Kept) (scope : Span) : Type 0 where
  pub read : name_in new kept ≡ name
  pub within : IsWithin (length new) kept
  pub scope_within : scope.end ≤ length new

-- names lie in their bytes, and these are their hashes
pub record AreKept (bytes : List ℕ) (names : List Kept) (hashes : List ℕ) (scope : Span) : Type 0 where
  pub within : AllByRecursion (IsWithin (length bytes)) names
  pub hashed : hashes ≡ map hash_of (map (name_in bytes) names)
  pub scope_within : scope.end ≤ length bytes
