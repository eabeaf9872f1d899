-- Laws of what `kind` has told: a file or a folder is there, as `append` and `names` require it.
use Rattle.std.proofs.Common.{◌≡◌, ℕ, true, List, Option, Some, None, IfSome, IsSome, refl}
use Rattle.std.specs.FinMap as map
use Rattle.uxn_io_traits.specs.declared.trees.Kind.TheVariants.{File as FileOf, Folder as FolderThere}
use Rattle.uxn_io_traits.specs.Files.{Node, File, Folder, Nodes, kind_of, kind_at, file_at, bytes_of, is_folder}

file_there : (node : Option Node) (n : ℕ) → FileOf n ≡ kind_of node → IsSome (bytes_of node)
file_there None n is = cc
file_there (Some (File bytes)) n is = refl
file_there (Some Folder) n is = cc

folder_there : (node : Option Node) → FolderThere ≡ kind_of node → is_folder node ≡ true
folder_there None is = cc
folder_there (Some (File bytes)) is = cc
folder_there (Some Folder) is = refl

-- `kind` told a file
pub known_file : (contents : Option Nodes) (path : List ℕ) (n : ℕ) → IfSome contents (λ nodes. FileOf n ≡ kind_at nodes path)
    → IfSome contents (λ nodes. IsSome (file_at nodes path))
known_file None path n is = tt
known_file (Some nodes) path n is = file_there (map.get nodes path) n is

-- `kind` told a folder
pub known_folder : (contents : Option Nodes) (path : List ℕ) → IfSome contents (λ nodes. FolderThere ≡ kind_at nodes path)
    → IfSome contents (λ nodes. is_folder (map.get nodes path) ≡ true)
known_folder None path is = tt
known_folder (Some nodes) path is = folder_there (map.get nodes path) is
