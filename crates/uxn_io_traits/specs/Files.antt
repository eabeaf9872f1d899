-- The files of a tree: a finite map from the text of a path to what is there.
use Rattle.std.specs.Prelude.{◌≡◌, ℕ, ◌<◌, ◌≤◌, Bool, true, false, IsTrue, IsSome, List, [], length, take, drop}
use Rattle.std.specs.Prelude.{Option, Some, None, Ok}
use Rattle.std.specs.Option.{unwrap_or}
use Rattle.std.specs.Ordering.{nat_cmp}
use Rattle.std.specs.Cmp.Lexicographic.{slice_cmp}
use Rattle.std.specs.FinMap as map
use Rattle.uxn_io_traits.specs.PathText.{path_of, parent_of}
use Rattle.uxn_io_traits.specs.declared.trees.Kind.{Kind}
use Rattle.uxn_io_traits.specs.declared.trees.Kind.TheVariants.{Missing, File as FileOf, Folder as FolderThere}

-- a file with its bytes, or a folder
pub data Node : Type 0 where
  File : List ℕ → Node
  Folder : Node

-- from the bytes of a path's text to the node there
abbrev pub Nodes : Type 0
Nodes = map.FinMap (slice_cmp nat_cmp) Node

-- the bytes of a node that is a file
abbrev pub bytes_of : Option Node → Option (List ℕ)
bytes_of None = None
bytes_of (Some (File bytes)) = Some bytes
bytes_of (Some Folder) = None

-- the bytes of the file at a path, where a file is there
abbrev pub file_at : Nodes → List ℕ → Option (List ℕ)
file_at nodes path = bytes_of (map.get nodes path)

-- what kind a node is; a file has its length
abbrev pub kind_of : Option Node → Kind
kind_of None = Missing
kind_of (Some (File bytes)) = FileOf (length bytes)
kind_of (Some Folder) = FolderThere

-- what stands at a path
abbrev pub kind_at : Nodes → List ℕ → Kind
kind_at nodes path = kind_of (map.get nodes path)

-- the bytes of the file at a path: none where no file is there
abbrev pub file_bytes_at : Nodes → List ℕ → List ℕ
file_bytes_at nodes path = unwrap_or (file_at nodes path) []

-- a folder is there
abbrev pub is_folder : Option Node → Bool
is_folder None = false
is_folder (Some (File bytes)) = false
is_folder (Some Folder) = true

-- a folder is at the path, or no path is given: the current folder is always there
abbrev pub is_folder_at : Nodes → Option (List ℕ) → Bool
is_folder_at nodes None = true
is_folder_at nodes (Some path) = is_folder (map.get nodes path)

-- the parent of the path is a folder
abbrev pub has_parent : Nodes → List ℕ → Bool
has_parent nodes path = is_folder_at nodes (parent_of path)

-- the known contents of a tree: something stands only at a path, and in a folder
pub record IsTree (nodes : Nodes) : Type 0 where
  pub paths : (path : List ℕ) → IsSome (map.get nodes path) → path_of path ≡ Ok path
  pub parents : (path : List ℕ) → IsSome (map.get nodes path) → IsTrue (has_parent nodes path)

-- the bytes of the file at a path from a place on: none where no file is there, or it is no longer than that
abbrev pub file_bytes_from : Nodes → List ℕ → ℕ → List ℕ
file_bytes_from nodes path from = drop from (file_bytes_at nodes path)

-- n of these bytes were put at the start of a buffer: some of them, where there are any and the buffer has room
pub record GivesBytes (bytes before now : List ℕ) (n : ℕ) : Type 0 where
  pub within : n ≤ length bytes
  pub prefix : take n now ≡ take n bytes
  pub some : 0 < length before → 0 < length bytes → 0 < n
