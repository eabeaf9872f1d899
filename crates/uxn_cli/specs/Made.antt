-- Outputs that are looked at, made and written.
use Rattle.std.specs.Prelude.{◌≡◌, ◌⊎◌, ℕ, true, false, List, Option, None, Some, Result, Ok, Err, IfSome, IsSome}
use Rattle.std.specs.List.{list_any}
use Rattle.std.specs.Str.{bytes_eq}
use Rattle.uxn_io_traits.specs.Gives.{Gives}
use Rattle.uxn_io_traits.specs.Ended.{TreeEnded, TreeLooked, Refused as CreateRefused, creating_all}
use Rattle.uxn_io_traits.specs.Faults.{Counted}
use Rattle.uxn_io_traits.specs.Files.{Nodes, file_at}
use Rattle.uxn_io_traits.specs.Outside.{Change}
use Rattle.uxn_io_traits.specs.State.{TreeState}
use Rattle.uxn_opcodes.specs.declared.Stop.TheVariants.{TreeFault, SinkFault, NoMemory}
use Rattle.uxn_arguments.specs.declared.task.Task.{Task}
use Rattle.uxn_arguments.specs.Options.{outputs_of}
use Rattle.uxn_arguments.specs.Places.{HasApartOutputs}
use Rattle.uxn_cli.specs.declared.task_files.refusal.Refusal.{Refusal}
use Rattle.uxn_cli.specs.declared.task_files.refusal.Refusal.TheVariants.{NoOutput}
use Rattle.uxn_cli.specs.declared.task_files.refusal.Halt.{Halt}
use Rattle.uxn_cli.specs.declared.task_files.refusal.Halt.TheVariants.{Refused, Stopped}
use Rattle.uxn_cli.specs.Accepted.{free_outputs}
use Rattle.uxn_cli.specs.World.{Text}
use Rattle.uxn_cli.specs.Writing.{Did, writing}

-- each output can be made, as the contents of the tree have it, and is no included file
abbrev pub AreFree : Option Nodes → List (List ℕ) → List (List ℕ) → Type 0
AreFree contents included paths = Gives contents (free_outputs included paths) (Ok tt)

-- paths of the outputs of a task, which do not clash
pub record AreApart (paths : List (List ℕ)) : Type 0 where
  pub task : Task
  pub apart : HasApartOutputs task
  pub outputs : paths ≡ outputs_of task

-- an output that a tree of unknown contents did not make
pub record IsUnmade (tree : Option Nodes) (paths : List (List ℕ)) (path : List ℕ) : Type 0 where
  pub unknown : tree ≡ None
  pub among : list_any (bytes_eq path) paths ≡ true

-- the tree itself refused to create this file: it has unknown contents, and names the file where it is exact
pub record RefusesFile (refusal : Refusal) (before now : TreeState) : Type 0 where
  pub path : List ℕ
  pub names : refusal ≡ NoOutput path
  pub unknown : before.contents ≡ None
  pub refused : CreateRefused (Some path) before now

-- a task is refused for an output: nothing that is known was changed, and the tree itself refused none or this one
pub record Refuses (included paths : List (List ℕ)) (refusal : Refusal) (before now : TreeState) : Type 0 where
  pub blocked : Gives before.contents (free_outputs included paths) (Err refusal)
  pub contents : now.contents ≡ before.contents
  pub counted : Counted before.tally now.tally false
  pub refusals : CreateRefused None before now ⊎ RefusesFile refusal before now

-- outputs that were made, and all of them are files now; none was refused
pub record Made (included paths : List (List ℕ)) (before now : TreeState) : Type 0 where
  pub free : AreFree before.contents included paths
  pub did : TreeEnded (creating_all paths) false before now
  pub refusals : CreateRefused None before now
  pub files : (path : List ℕ) → list_any (bytes_eq path) paths ≡ true → IfSome now.contents (λ nodes. IsSome (file_at nodes path))

-- some of these changes were made, and the tree failed
pub record HalfDone (included paths : List (List ℕ)) (changes : List Change) (before now : TreeState) : Type 0 where
  pub free : AreFree before.contents included paths
  pub did : TreeEnded changes true before now
  pub refusals : CreateRefused None before now

-- why not all of them were: one is refused; or the tree failed, as it was looked at or once some was done; or memory ran out
abbrev pub EndsMaking : List (List ℕ) → List (List ℕ) → List Change → TreeState → TreeState → Halt → Type 0
EndsMaking included paths changes before now (Refused refusal) = Refuses included paths refusal before now
EndsMaking included paths changes before now (Stopped TreeFault) = TreeLooked true before now ⊎ HalfDone included paths changes before now
EndsMaking included paths changes before now (Stopped NoMemory) = TreeLooked false before now
EndsMaking included paths changes before now (Stopped SinkFault) = ⊥

abbrev pub MakesOutputs : List (List ℕ) → List (List ℕ) → TreeState → TreeState → Result (Unit {0}) Halt → Type 0
MakesOutputs included paths before now (Ok _) = Made included paths before now
MakesOutputs included paths before now (Err halt) = EndsMaking included paths (creating_all paths) before now halt

-- files that were written; none was refused
pub record WroteTexts (included paths : List (List ℕ)) (texts : List Text) (before now : TreeState) : Type 0 where
  pub free : AreFree before.contents included paths
  pub did : TreeEnded (writing texts) false before now
  pub refusals : CreateRefused None before now

abbrev pub WritesOutputs : List (List ℕ) → List (List ℕ) → List Text → TreeState → TreeState → Result (Unit {0}) Halt → Type 0
WritesOutputs included paths texts before now (Ok _) = WroteTexts included paths texts before now
WritesOutputs included paths texts before now (Err halt) = EndsMaking included paths (writing texts) before now halt

-- ---- what a part of this work does: these changes, in order, and a file that the tree does not make ends it

pub record LeavesUnmade (paths : List (List ℕ)) (changes : List Change) (refusal : Refusal) (before now : TreeState) : Type 0 where
  pub path : List ℕ
  pub names : refusal ≡ NoOutput path
  pub unmade : IsUnmade before.contents paths path
  pub did : Did changes false (Some path) before now

abbrev pub DoesPart : List (List ℕ) → List Change → TreeState → TreeState → Result (Unit {0}) Halt → Type 0
DoesPart paths changes before now (Ok _) = Did changes false None before now
DoesPart paths changes before now (Err (Refused refusal)) = LeavesUnmade paths changes refusal before now
DoesPart paths changes before now (Err (Stopped TreeFault)) = Did changes true None before now
DoesPart paths changes before now (Err (Stopped SinkFault)) = ⊥
DoesPart paths changes before now (Err (Stopped NoMemory)) = ⊥
