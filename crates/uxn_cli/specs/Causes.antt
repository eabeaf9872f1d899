-- When each status is given, and what stays as it was.
use Rattle.std.specs.Prelude.{◌≡◌, ℕ, List, [], ◌∷◌, ◌++◌, Option, Some, Result, Ok, ◌⊎◌}
use Rattle.std.specs.Prelude.{false, IfOk, IfSome}
use Rattle.std.specs.List.{list_any}
use Rattle.std.specs.Str.{bytes_eq}
use Rattle.std.specs.FinMap as map
use Rattle.file_ports.specs.Device.{suits}
use Rattle.uxn_io_traits.specs.Known.{extended}
use Rattle.uxn_io_traits.specs.Files.{Nodes}
use Rattle.uxn_arguments.specs.declared.task.Task.{Task}
use Rattle.uxn_cli.specs.declared.task_files.refusal.Refusal.{Refusal}
use Rattle.uxn_io_traits.specs.Inquiry.{answer_in}
use Rattle.uxn_cli.specs.Verdict.{Work, inquiry_of}
use Rattle.uxn_arguments.specs.Options.{outputs_of, root_of}
use Rattle.uxn_cli.specs.Statuses.{IsEarly}
use Rattle.uxn_cli.specs.Outcome.{outcome_of}

-- the answer is this status exactly where the fact holds, unless the call ended early
pub record IsExactly (answer status : ℕ) (P : Type 0) : Type 0 where
  pub only : answer ≡ status → P
  pub whenever : P → (answer ≡ status) ⊎ IsEarly answer

-- the verdict on words and on what stands in a tree
abbrev pub tree_verdict : Nodes → Result Task Refusal → Result Work Refusal
tree_verdict nodes requested = answer_in nodes (inquiry_of requested)

-- what is accepted ends with this exit code
abbrev pub EndsWith : Option Nodes → ℕ → Result Work Refusal → Type 0
EndsWith files code verdict = (work : Work) × (verdict ≡ Ok work) × ((outcome_of files (Ok work)).status ≡ code)

-- a line and nothing else was put
abbrev pub PutsLine : Option (List ℕ) → Option (List ℕ) → Type 0
PutsLine before now = (text : List ℕ) × (now ≡ extended before (text ++ 10 ∷ []))

-- the path is no file that the task writes, and lies outside its root
pub record IsAside (task : Task) (path : List ℕ) : Type 0 where
  pub output : list_any (bytes_eq path) (outputs_of task) ≡ false
  pub outside : suits (root_of task) (Some path) ≡ false

-- every path but those of the outputs and those beneath the root has its old node
abbrev pub KeepsOthers : Result Task Refusal → Option Nodes → Option Nodes → Type 0
KeepsOthers requested before now =
    (path : List ℕ) → IfOk requested (λ task. IsAside task path)
    → IfSome before (λ old. IfSome now (λ new. map.get new path ≡ map.get old path))
