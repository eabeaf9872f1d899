-- A tree stays a tree where a file is put or taken away.
use Rattle.std.proofs.Common.{arith, ◌≡◌, ℕ, true, false, List, Option, Some, None, IsSome, Ok, refl}
use Rattle.std.proofs.lemmas.Grind.{common_steps}
use Rattle.std.specs.Ordering.{nat_cmp, eq_by_cmp}
use Rattle.std.specs.Cmp.Lexicographic.{slice_cmp}
use Rattle.std.specs.FinMap as map
use Rattle.uxn_io_traits.specs.Files.{File, Nodes, IsTree, is_folder, is_folder_at, has_parent}
use Rattle.uxn_io_traits.specs.PathText.{path_of}
use Rattle.uxn_io_traits.specs.NodeLaws.{same_or_other, put_other, taken_other, get_taken}

-- a folder is still there
folder_kept : (nodes new : Nodes) (path : List ℕ) (parent : Option (List ℕ))
    → ((q : List ℕ) → eq_by_cmp (slice_cmp nat_cmp) q path ≡ false → map.get new q ≡ map.get nodes q) → is_folder (map.get nodes path) ≡ false
    → is_folder_at nodes parent ≡ true → is_folder_at new parent ≡ true
folder_kept nodes new path None others file folder = refl
folder_kept nodes new path (Some parent) others file folder = grind (arith, common_steps, same_or_other)

-- a file was put at a path, in a folder
pub tree_put : (nodes : Nodes) (path bytes : List ℕ) → IsTree nodes → path_of path ≡ Ok path → has_parent nodes path ≡ true
    → is_folder (map.get nodes path) ≡ false → IsTree (map.insert nodes path (File bytes))
tree_put nodes path bytes tree text parent file = grind (arith, common_steps, folder_kept, put_other, same_or_other)

nothing_left : (nodes : Nodes) (path : List ℕ) → IsSome (map.get (map.remove nodes path) path) → ⊥
nothing_left nodes path some = grind (arith, common_steps, get_taken)

-- a file was taken away
pub tree_remove : (nodes : Nodes) (path : List ℕ) → IsTree nodes → is_folder (map.get nodes path) ≡ false → IsTree (map.remove nodes path)
tree_remove nodes path tree file = grind (arith, common_steps, folder_kept, nothing_left, same_or_other, taken_other)
