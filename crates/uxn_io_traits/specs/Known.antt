-- The bytes that a sink has taken, where they are known.
use Rattle.std.specs.Prelude.{◌≡◌, ℕ, ◌<◌, List, ◌++◌, length, take, Option, Some, None}

-- the known contents, with more bytes at its end: unknown contents stay unknown
abbrev pub extended : Option (List ℕ) → List ℕ → Option (List ℕ)
extended None more = None
extended (Some bytes) more = Some (bytes ++ more)

-- one text is known to be a prefix of another
pub record IsPrefixOf (prefix whole : Option (List ℕ)) : Type 0 where
  pub rest : List ℕ
  pub is : whole ≡ extended prefix rest

-- a prefix of the piece, shorter than the whole and perhaps empty, was appended
pub record HasTakenPrefix (before now : Option (List ℕ)) (piece : List ℕ) : Type 0 where
  pub count : ℕ
  pub within : count < length piece
  pub taken : now ≡ extended before (take count piece)
