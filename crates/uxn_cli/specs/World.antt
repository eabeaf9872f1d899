-- What a call can see and change.
use Rattle.std.specs.Prelude.{◌≡◌, ℕ, ◌+◌, ◌≤◌, true, List, [], ◌∷◌, length, map, fold, All}
use Rattle.std.specs.Prelude.{Option, Some, None, IsSome}
use Rattle.uxn_io_traits.specs.Files.{Nodes, file_at, file_bytes_at}
use Rattle.uxn_io_traits.specs.Changes.{can_create, with_created, with_appended}
use Rattle.uxn_io_traits.specs.Outside.{World}

-- the files of the tree and the bytes that the two outputs took, where they are known
abbrev pub world : Option Nodes → Option (List ℕ) → Option (List ℕ) → World
world tree out err = record { out = out; err = err; files = tree }

-- a file, and the bytes that it is to hold
pub record Text : Type 0 where
  pub path : List ℕ
  pub bytes : List ℕ

abbrev pub text_paths : List Text → List (List ℕ)
text_paths texts = map (λ (text : Text). text.path) texts

-- a text in a file, where the file is requested
abbrev pub requested_output : Option (List ℕ) → List ℕ → List Text
requested_output None bytes = []
requested_output (Some path) bytes = record { path = path; bytes = bytes } ∷ []

-- files that are made empty, in order
abbrev pub with_empty : List Text → Nodes → Nodes
with_empty texts nodes = fold (λ before text. with_created text.path before) nodes texts

-- files that can be made one after the other
unfoldable pub CanMake : List Text → Nodes → Type 0
CanMake [] nodes = Unit {0}
CanMake (text ∷ texts) nodes = (can_create nodes text.path ≡ true) × CanMake texts (with_created text.path nodes)

-- a file is at each path
abbrev pub AreFiles : List Text → Nodes → Type 0
AreFiles texts nodes = All (λ text. IsSome (file_at nodes text.path)) texts

-- files that get their bytes one after the other, and none gets over so many bytes
unfoldable pub CanFill : ℕ → List Text → Nodes → Type 0
CanFill limit [] nodes = Unit {0}
CanFill limit (text ∷ texts) nodes =
    (length (file_bytes_at nodes text.path) + length text.bytes ≤ limit) × CanFill limit texts (with_appended text.path text.bytes nodes)
