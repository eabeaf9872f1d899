-- Files that are made and filled, as changes in order.
use Rattle.std.specs.Prelude.{ℕ, Bool, List, ◌++◌, map, Option}
use Rattle.std.specs.List.{flat_map}
use Rattle.uxn_io_traits.specs.Ended.{TreeEnded, Refused, appending, creating_all}
use Rattle.uxn_io_traits.specs.Outside.{Change}
use Rattle.uxn_io_traits.specs.State.{TreeState}
use Rattle.uxn_cli.specs.World.{Text}

-- files get their bytes, in order
abbrev pub filling_all : List Text → List Change
filling_all texts = flat_map (λ (text : Text). appending text.path text.bytes) texts

-- files are written: all are made, and then they get their bytes
unfoldable pub writing : List Text → List Change
writing texts = creating_all (map (λ text. text.path) texts) ++ filling_all texts

-- changes were made, or a prefix of them where the tree failed; and the file that the tree itself refused to create
pub record Did (changes : List Change) (failed : Bool) (refused : Option (List ℕ)) (before now : TreeState) : Type 0 where
  pub done : TreeEnded changes failed before now
  pub refusals : Refused refused before now
