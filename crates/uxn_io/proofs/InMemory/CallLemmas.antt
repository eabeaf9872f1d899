-- A tree in memory does what it guarantees.
use Rattle.std.proofs.lemmas.Grind.{common_steps}
use Rattle.std.proofs.Common.{◌≡◌, ℕ, ◌+◌, ◌<◌, true, false, List, Some, arith}
use Rattle.std.proofs.lemmas.Bool.Decides.{nat_tests}
use Rattle.uxn_io_traits.specs.CallLaws.{takes-some, created-takes, appended-takes, appended-left}
use Rattle.uxn_io_traits.specs.Ended.{creating, removing, appending}
use Rattle.uxn_io_traits.specs.Files.{Nodes}
use Rattle.uxn_io.specs.InMemory.Trees.{TreeInMemory, is_listed_later, guaranteed_of, lacks_place, lacks_room, removed}
use Rattle.uxn_io_traits.specs.Outside.{Change}
use Rattle.uxn_io_traits.specs.Taking.{TreeTakes, TreeLeft}

-- where it guarantees any call none is listed later
none-listed : (tree : TreeInMemory) → 0 < (guaranteed_of tree).files → is_listed_later tree ≡ false
none-listed tree some = grind (arith, nat_tests)

pub takes-unlisted : (tree : TreeInMemory) (nodes : Nodes) (changes : List Change) → TreeTakes (guaranteed_of tree) nodes changes
    → is_listed_later tree ≡ false
takes-unlisted tree nodes changes takes = none-listed tree (takes-some (guaranteed_of tree) nodes changes takes)

files-of : (tree : TreeInMemory) → is_listed_later tree ≡ false → (guaranteed_of tree).files ≡ tree.held.free + 1
files-of tree unlisted = grind (arith, nat_tests)

-- a place is there for a file that it is guaranteed to make, and room for what it is guaranteed to append
pub has-place : (tree : TreeInMemory) (path : List ℕ) → TreeTakes (guaranteed_of tree) tree.held.nodes (creating (Some tree.held.nodes) path)
    → lacks_place tree.held path ≡ true → ⊥
has-place tree path takes lacks = grind (arith, common_steps, created-takes, files-of, takes-unlisted)

pub has-room : (tree : TreeInMemory) (path piece : List ℕ) → TreeTakes (guaranteed_of tree) tree.held.nodes (appending path piece)
    → lacks_room tree.held path piece ≡ true → ⊥
has-room tree path piece takes lacks = grind (arith, common_steps, appended-takes)

-- what is left then
pub append-left : (tree now : TreeInMemory) (path text : List ℕ) → is_listed_later tree ≡ false → is_listed_later now ≡ false
    → now.held.free ≡ tree.held.free → now.held.room ≡ tree.held.room
    → TreeLeft (guaranteed_of tree) (guaranteed_of now) tree.held.nodes (appending path text)
append-left tree now path text none none_now free room =
    let before = files-of tree none in
    let after = files-of now none_now in
    appended-left path (guaranteed_of tree) (guaranteed_of now) tree.held.nodes text (omega (arith, before, after, free)) (omega (arith, room))

pub remove-left : (tree now : TreeInMemory) (path : List ℕ) → is_listed_later tree ≡ false → is_listed_later now ≡ false
    → now.held ≡ removed tree.held path → TreeLeft (guaranteed_of tree) (guaranteed_of now) tree.held.nodes (removing (Some tree.held.nodes) path)
remove-left tree now path none none_now is = grind (arith, common_steps)
