-- What is done to the outside: changes, one after the other, and what they leave there.
use Rattle.std.specs.Prelude.{◌≡◌, ℕ, List, [], ◌∷◌, ◌++◌, Option}
use Rattle.std.specs.Option.{option_map}
use Rattle.std.specs.FinMap as nodes_map
use Rattle.uxn_io_traits.specs.Files.{Nodes, File}
use Rattle.uxn_io_traits.specs.Changes.{with_appended}
use Rattle.uxn_io_traits.specs.Known.{extended}

-- a byte added to the standard output, or to the error output; a path that becomes an empty file, a byte added to a file, or
-- a file that is taken away
pub data Change : Type 0 where
  ToOut : (byte : ℕ) → Change
  ToErr : (byte : ℕ) → Change
  Creates : (path : List ℕ) → Change
  ToFile : (path : List ℕ) (byte : ℕ) → Change
  Removes : (path : List ℕ) → Change

-- what the two outputs and the tree tell, each where the contents are known
pub record World : Type 0 where
  pub out : Option (List ℕ)
  pub err : Option (List ℕ)
  pub files : Option Nodes

-- a change done to the files of a tree
abbrev pub changed_files : Change → Nodes → Nodes
changed_files (ToOut byte) nodes = nodes
changed_files (ToErr byte) nodes = nodes
changed_files (Creates path) nodes = nodes_map.insert nodes path (File [])
changed_files (ToFile path byte) nodes = with_appended path (byte ∷ []) nodes
changed_files (Removes path) nodes = nodes_map.remove nodes path

-- changes done to files, one after the other
abbrev pub files_by : Nodes → List Change → Nodes
files_by nodes [] = nodes
files_by nodes (change ∷ changes) = files_by (changed_files change nodes) changes

-- a change done to a world
abbrev pub changed : World → Change → World
changed world (ToOut byte) = record world { out = extended world.out (byte ∷ []) }
changed world (ToErr byte) = record world { err = extended world.err (byte ∷ []) }
changed world change = record world { files = option_map (changed_files change) world.files }

-- a list of changes done to a world, in order
abbrev pub changed_by : World → List Change → World
changed_by world [] = world
changed_by world (change ∷ changes) = changed_by (changed world change) changes

-- the bytes that changes add to the standard output
abbrev pub put_by_one : Change → List ℕ
put_by_one (ToOut byte) = byte ∷ []
put_by_one _ = []

abbrev pub put_by : List Change → List ℕ
put_by [] = []
put_by (change ∷ changes) = put_by_one change ++ put_by changes

-- of these changes a prefix was made, in order, and the rest was not
pub record IsCutOff (before now : World) (changes : List Change) : Type 0 where
  pub made : List Change
  pub rest : List Change
  pub parts : changes ≡ made ++ rest
  pub left : now ≡ changed_by before made
