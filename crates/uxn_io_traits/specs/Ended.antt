-- How a call ended that was to make changes outside: it made all of them, or it stopped and made a prefix of them (profile).
use Rattle.std.specs.Prelude.{◌≡◌, ℕ, ◌+◌, ◌<◌, ◌≤◌, Bool, true, false}
use Rattle.std.specs.Prelude.{List, [], ◌∷◌, ◌++◌, ◌⊎◌, length, take, map}
use Rattle.std.specs.Prelude.{Option, Some, None, Result, Ok, Err, is_some, if◌then◌else◌}
use Rattle.std.specs.Option.{option_map}
use Rattle.std.specs.List.{AllByRecursion}
use Rattle.uxn_io_traits.specs.declared.refused.RefusedFiles.{RefusedFiles}
use Rattle.uxn_io_traits.specs.declared.sinks.Failed.{Failed}
use Rattle.uxn_io_traits.specs.Files.{Nodes, file_at}
use Rattle.uxn_io_traits.specs.Changes.{can_create}
use Rattle.uxn_io_traits.specs.Faults.{Blame, Nobody, TheTree, ASink, Counted, Ledger, one_more}
use Rattle.uxn_io_traits.specs.Outside.{Change, ToOut, ToErr, Creates, ToFile, Removes, changed_files, changed_by, IsCutOff}
use Rattle.uxn_io_traits.specs.Room.{Room}
use Rattle.uxn_io_traits.specs.State.{TreeState, SinkState, Outside}
use Rattle.uxn_io_traits.specs.Taking.{TreeTakes, TreeLeft, Remains, WasNotGuaranteed}
use Rattle.uxn_io_traits.specs.Known.{extended, HasTakenPrefix}

-- the known contents of a tree after changes, where the contents are known
abbrev pub contents_after : List Change → Option Nodes → Option Nodes
contents_after [] contents = contents
contents_after (change ∷ changes) contents = contents_after changes (option_map (changed_files change) contents)

-- a prefix of the changes was made, and the rest was not
pub record HasMadePrefix (changes : List Change) (before now : Option Nodes) : Type 0 where
  pub made : List Change
  pub rest : List Change
  pub parts : changes ≡ made ++ rest
  pub contents : now ≡ contents_after made before

abbrev pub StandsAfter : List Change → Bool → Option Nodes → Option Nodes → Type 0
StandsAfter changes false before now = now ≡ contents_after changes before
StandsAfter changes true before now = HasMadePrefix changes before now

-- a tree is guaranteed to make these changes: of one of unknown contents only that it is looked at is guaranteed
abbrev pub TakesChanges : Room → Option Nodes → List Change → Type 0
TakesChanges room None changes = (0 < room.files) × (changes ≡ [])
TakesChanges room (Some nodes) changes = TreeTakes room nodes changes

-- so much room is left
abbrev pub IsLeft : Room → Room → Option Nodes → List Change → Type 0
IsLeft before now None changes = (before.files ≤ now.files) × (before.bytes ≤ now.bytes)
IsLeft before now (Some nodes) changes = TreeLeft before now nodes changes

-- a call of a tree: who failed has counted it and was not guaranteed to make the changes; who is guaranteed to make them has so much room left
pub record TreeEnded (changes : List Change) (failed : Bool) (before now : TreeState) : Type 0 where
  pub stands : StandsAfter changes failed before.contents now.contents
  pub counted : Counted before.tally now.tally failed
  pub blamed : failed ≡ true → TakesChanges before.guaranteed before.contents changes → ⊥
  pub left : failed ≡ false → TakesChanges before.guaranteed before.contents changes
      → IsLeft before.guaranteed now.guaranteed before.contents changes

-- with one refused file more, if one was refused
abbrev pub refused_also : Option (List ℕ) → RefusedFiles → RefusedFiles
refused_also None files = files
refused_also (Some path) files = record { count = one_more files.count; last = Some path }

-- an exact tree counts a file that it refused to create, and names the last one; it counts no other
abbrev pub Refused : Option (List ℕ) → TreeState → TreeState → Type 0
Refused file before now = before.tally.exact ≡ true → now.refused ≡ refused_also file before.refused

-- a call that asks to create one file at most is refused that one at most
abbrev pub RefusedAtMost : List ℕ → TreeState → TreeState → Type 0
RefusedAtMost path before now = Refused None before now ⊎ Refused (Some path) before now

-- a tree that counts exactly refused to create no file, and counts exactly still
pub record RefusesNone (before now : TreeState) : Type 0 where
  pub exact : now.tally.exact ≡ before.tally.exact
  pub none : Refused None before now

-- a call that only looked at a tree
pub record TreeLooked (failed : Bool) (before now : TreeState) : Type 0 where
  pub contents : now.contents ≡ before.contents
  pub counted : Counted before.tally now.tally failed
  pub refusals : Refused None before now
  pub blamed : failed ≡ true → 0 < before.guaranteed.files → ⊥
  pub left : failed ≡ false → 0 < before.guaranteed.files
      → (before.guaranteed.files ≤ now.guaranteed.files) × (before.guaranteed.bytes ≤ now.guaranteed.bytes)

-- the changes that the calls of a tree are to make: a file made empty, where one can be created; a file taken away, where one is
-- there; bytes appended to a file. Of a tree of unknown contents it is not guaranteed that it can create
abbrev pub creating : Option Nodes → List ℕ → List Change
creating (Some nodes) path = if can_create nodes path then Creates path ∷ [] else []
creating None path = Creates path ∷ []

abbrev pub removing : Option Nodes → List ℕ → List Change
removing (Some nodes) path = if is_some (file_at nodes path) then Removes path ∷ [] else []
removing None path = []

abbrev pub appending : List ℕ → List ℕ → List Change
appending path piece = map (λ byte. ToFile path byte) piece

-- files made, empty and in order
abbrev pub creating_all : List (List ℕ) → List Change
creating_all paths = map (λ path. Creates path) paths

-- the part of a piece that a call was to take: what it answers, or, where it failed, all
abbrev pub portion : Result ℕ Failed → List ℕ → List ℕ
portion (Ok count) piece = take count piece
portion (Err failed) piece = piece

-- the file that `create` answers that it refused
abbrev pub refused_file : List ℕ → Result Bool Failed → Option (List ℕ)
refused_file path (Ok true) = None
refused_file path (Ok false) = Some path
refused_file path (Err failed) = None

-- a call that was to put bytes on a sink: it has them all, or failed and has a prefix that is not whole
abbrev pub HoldsAfter : List ℕ → Bool → Option (List ℕ) → Option (List ℕ) → Type 0
HoldsAfter bytes false before now = now ≡ extended before bytes
HoldsAfter bytes true before now = HasTakenPrefix before now bytes

pub record SinkEnded (bytes : List ℕ) (failed : Bool) (before now : SinkState) : Type 0 where
  pub holds : HoldsAfter bytes failed before.contents now.contents
  pub counted : Counted before.tally now.tally failed
  pub blamed : failed ≡ true → length bytes < before.guaranteed → ⊥
  pub left : failed ≡ false → before.guaranteed ≤ now.guaranteed + length bytes

-- a sink that failed to take any of a piece, of which none was guaranteed
pub record SinkFailed (piece : List ℕ) (before now : SinkState) : Type 0 where
  pub contents : now.contents ≡ before.contents
  pub counted : Counted before.tally now.tally true
  pub blamed : length piece < before.guaranteed → ⊥

-- all changes were made on a tree and two sinks: none of them failed, and so much is guaranteed still
pub record Done (changes : List Change) (before now : Outside) : Type 0 where
  pub world : now.world ≡ changed_by before.world changes
  pub ledger : Ledger before.faults now.faults Nobody
  pub remains : Remains before.guaranteed now.guaranteed before.world.files changes

-- a prefix of them was made: who is to blame has counted a fault, and was not guaranteed to take all of them
pub record CutShort (changes : List Change) (blame : Blame) (before now : Outside) : Type 0 where
  pub cut : IsCutOff before.world now.world changes
  pub ledger : Ledger before.faults now.faults blame
  pub not_guaranteed : WasNotGuaranteed blame before.guaranteed before.world.files changes

-- the one or the other, by who is to blame for a stop, if it stopped
abbrev pub Ended : List Change → Option Blame → Outside → Outside → Type 0
Ended changes None before now = Done changes before now
Ended changes (Some blame) before now = CutShort changes blame before now

-- changes that touch files alone
abbrev pub IsOfTree : Change → Type 0
IsOfTree (ToOut byte) = ⊥
IsOfTree (ToErr byte) = ⊥
IsOfTree (Creates path) = Unit {0}
IsOfTree (ToFile path byte) = Unit {0}
IsOfTree (Removes path) = Unit {0}

abbrev pub AreOfTree : List Change → Type 0
AreOfTree = AllByRecursion IsOfTree

-- who is to blame for a tree that failed
abbrev pub blame_of_tree : Bool → Option Blame
blame_of_tree false = None
blame_of_tree true = Some TheTree

-- and for a sink that failed
abbrev pub blame_of_sink : Bool → Option Blame
blame_of_sink false = None
blame_of_sink true = Some ASink

-- bytes put on the standard output, and on the error output
abbrev pub to_out : List ℕ → List Change
to_out bytes = map (λ byte. ToOut byte) bytes

abbrev pub to_err : List ℕ → List Change
to_err bytes = map (λ byte. ToErr byte) bytes
