-- The part of a tree that file devices see: the root and what lies beneath it (profile).
use Rattle.std.specs.Prelude.{◌≡◌, ℕ, ◌⊎◌, Bool, false, IsTrue, ◌||◌, List, Option, Some, None}
use Rattle.std.specs.List.{AllByRecursion}
use Rattle.std.specs.Str.{bytes_eq}
use Rattle.std.specs.FinMap as map
use Rattle.uxn_io_traits.specs.PathText.{is_under, ContinuesAfter}
use Rattle.uxn_io_traits.specs.Files.{Nodes, has_parent}
use Rattle.uxn_io_traits.specs.AtPath.{path_changed}
use Rattle.uxn_io_traits.specs.Outside.{Change}

-- the root's own path, or one beneath it
unfoldable pub is_in : List ℕ → List ℕ → Bool
is_in root path = bytes_eq path root || is_under path root

abbrev pub LiesIn : List ℕ → List ℕ → Type 0
LiesIn root path = (path ≡ root) ⊎ ContinuesAfter path root

-- the nodes at the root's own path and beneath it; without a root there are none
abbrev pub below : Option (List ℕ) → Nodes → Nodes
below None nodes = map.empty
below (Some root) nodes = map.retain_keys nodes (is_in root)

-- the root's parent is a folder
abbrev pub parent_is_folder : Option (List ℕ) → Nodes → Bool
parent_is_folder None nodes = false
parent_is_folder (Some root) nodes = has_parent nodes root

-- a change of a file in the root part
abbrev pub is_in_part : Option (List ℕ) → Option (List ℕ) → Bool
is_in_part root None = false
is_in_part None (Some path) = false
is_in_part (Some root) (Some path) = is_in root path

abbrev pub IsIn : Option (List ℕ) → Change → Type 0
IsIn root change = IsTrue (is_in_part root (path_changed change))

-- all of these changes are
abbrev pub LieIn : Option (List ℕ) → List Change → Type 0
LieIn root = AllByRecursion (IsIn root)
