-- What the calls of a tree change (profile).
use Rattle.std.specs.Prelude.{ℕ, Bool, not, ◌&&◌, List, [], ◌∷◌, ◌++◌, is_some, is_none, if◌then◌else◌}
use Rattle.std.specs.FinMap as map
use Rattle.uxn_io_traits.specs.Files.{Nodes, File, file_bytes_at, file_at, is_folder, has_parent}

-- a file can be created where the parent is a folder and the path is none
abbrev pub can_create : Nodes → List ℕ → Bool
can_create nodes path = has_parent nodes path && not (is_folder (map.get nodes path))

-- with an empty file at the path, where it can be created
abbrev pub with_created : List ℕ → Nodes → Nodes
with_created path nodes = if can_create nodes path then map.insert nodes path (File []) else nodes

-- that makes a file more where nothing was there
abbrev pub makes_file : Nodes → List ℕ → Bool
makes_file nodes path = can_create nodes path && is_none (map.get nodes path)

-- how many files it makes
abbrev pub new_files : Nodes → List ℕ → ℕ
new_files nodes path = if makes_file nodes path then 1 else 0

-- with more bytes at the end of the file at the path
abbrev pub with_appended : List ℕ → List ℕ → Nodes → Nodes
with_appended path [] nodes = nodes
with_appended path (byte ∷ more) nodes = map.insert nodes path (File (file_bytes_at nodes path ++ byte ∷ more))

-- without the file at the path, where there is one
abbrev pub with_removed : List ℕ → Nodes → Nodes
with_removed path nodes = if is_some (file_at nodes path) then map.remove nodes path else nodes
