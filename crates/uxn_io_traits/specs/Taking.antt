-- Which changes a tree and two sinks are guaranteed to take, and what they are guaranteed to take afterwards (profile).
use Rattle.std.specs.Prelude.{◌≡◌, ℕ, ◌+◌, ◌<◌, ◌≤◌, List, [], ◌∷◌, ◌++◌, length, Option, IfSome}
use Rattle.uxn_io_traits.specs.Files.{Nodes, file_bytes_at}
use Rattle.uxn_io_traits.specs.Changes.{new_files}
use Rattle.uxn_io_traits.specs.Faults.{Blame, Nobody, TheTree, ASink}
use Rattle.uxn_io_traits.specs.Outside.{Change, ToOut, ToErr, Creates, ToFile, Removes, changed_files, files_by}
use Rattle.uxn_io_traits.specs.Room.{Room}

-- how many files a change makes more, and how many it takes away
abbrev pub makes_more : Nodes → Change → ℕ
makes_more nodes (Creates path) = new_files nodes path
makes_more nodes _ = 0

abbrev pub takes_away : Change → ℕ
takes_away (Removes path) = 1
takes_away _ = 0

-- how many bytes it puts on the standard output, and how many on the error output
abbrev pub puts_out : Change → ℕ
puts_out (ToOut byte) = 1
puts_out _ = 0

abbrev pub puts_err : Change → ℕ
puts_err (ToErr byte) = 1
puts_err _ = 0

-- the same of changes, one after the other
abbrev pub files_made : Nodes → List Change → ℕ
files_made nodes [] = 0
files_made nodes (change ∷ changes) = makes_more nodes change + files_made (changed_files change nodes) changes

abbrev pub files_gone : List Change → ℕ
files_gone [] = 0
files_gone (change ∷ changes) = takes_away change + files_gone changes

abbrev pub bytes_out : List Change → ℕ
bytes_out [] = 0
bytes_out (change ∷ changes) = puts_out change + bytes_out changes

abbrev pub bytes_err : List Change → ℕ
bytes_err [] = 0
bytes_err (change ∷ changes) = puts_err change + bytes_err changes

-- a tree is guaranteed to take changes: whatever prefix of them is done, it has room for more files than are there more by then, and a
-- file to which a byte is then added has room for it
pub record TreeTakes (room : Room) (nodes : Nodes) (changes : List Change) : Type 0 where
  pub files : (first rest : List Change) → changes ≡ first ++ rest → files_made nodes first < room.files + files_gone first
  pub bytes : (first rest : List Change) (path : List ℕ) (byte : ℕ) → changes ≡ first ++ ToFile path byte ∷ rest
      → length (file_bytes_at (files_by nodes first) path) < room.bytes

-- so much room is left after them
pub record TreeLeft (before now : Room) (nodes : Nodes) (changes : List Change) : Type 0 where
  pub files : before.files + files_gone changes ≤ now.files + files_made nodes changes
  pub bytes : before.bytes ≤ now.bytes

-- a sink is guaranteed to take so many bytes, where there are any
abbrev pub SinkTakes : ℕ → ℕ → Type 0
SinkTakes guaranteed count = 0 < count → count < guaranteed

-- what is guaranteed of a tree and two sinks
pub record Guaranteed : Type 0 where
  pub tree : Room
  pub out : ℕ
  pub err : ℕ

abbrev pub guaranteed : Room → ℕ → ℕ → Guaranteed
guaranteed tree out err = record { tree = tree; out = out; err = err }

-- so much is guaranteed after changes
pub record Remains (before now : Guaranteed) (contents : Option Nodes) (changes : List Change) : Type 0 where
  pub tree : IfSome contents (λ nodes. TreeTakes before.tree nodes changes → TreeLeft before.tree now.tree nodes changes)
  pub out : before.out ≤ now.out + bytes_out changes
  pub err : before.err ≤ now.err + bytes_err changes

-- whoever is to blame was not guaranteed to take the changes
abbrev pub WasNotGuaranteed : Blame → Guaranteed → Option Nodes → List Change → Type 0
WasNotGuaranteed Nobody before contents changes = Unit {0}
WasNotGuaranteed TheTree before contents changes = IfSome contents (λ nodes. TreeTakes before.tree nodes changes → ⊥)
WasNotGuaranteed ASink before contents changes = SinkTakes before.out (bytes_out changes) → SinkTakes before.err (bytes_err changes) → ⊥
