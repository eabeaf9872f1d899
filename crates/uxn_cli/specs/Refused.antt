-- Files that a tree refused to create, as one that is exact counts and names them. A program with a root makes files of its own, of which
-- nothing is said here.
use Rattle.std.specs.Prelude.{◌≡◌, ℕ, ◌⊎◌, List, None, Some, Result, Ok, Err, IfOk}
use Rattle.uxn_io_traits.specs.Ended.{Refused as CreateRefused}
use Rattle.uxn_io_traits.specs.Known.{extended}
use Rattle.uxn_io_traits.specs.State.{TreeState, SinkState}
use Rattle.uxn_arguments.specs.declared.task.Task.{Task}
use Rattle.uxn_arguments.specs.Options.{root_of}
use Rattle.uxn_cli.specs.declared.task_files.refusal.Refusal.{Refusal}
use Rattle.uxn_cli.specs.declared.task_files.refusal.Refusal.TheVariants.{NoOutput}
use Rattle.uxn_cli.specs.declared.task_files.refusal.Halt.{Halt}
use Rattle.uxn_cli.specs.declared.task_files.refusal.Halt.TheVariants.{Refused, Stopped}
use Rattle.uxn_cli.specs.Lines.{refusal_line}
use Rattle.uxn_cli.specs.Statuses.{IsEarly, IsRefusing, early_status}

-- what is asked has no root
abbrev pub HasNoRoot : Result Task Refusal → Type 0
HasNoRoot requested = IfOk requested (λ task. root_of task ≡ None)

-- none was refused; or one, by a tree of unknown contents, and this came of it
abbrev pub AtMostOne : TreeState → TreeState → (List ℕ → Type 0) → Type 0
AtMostOne before now P = CreateRefused None before now ⊎ ((path : List ℕ) × (before.contents ≡ None)
    × CreateRefused (Some path) before now × P path)

-- the call is refused for it, and its line names it; or ended early then
abbrev pub IsSaid : SinkState → SinkState → ℕ → List ℕ → Type 0
IsSaid before now status path =
    ((status ≡ 135) × (now.contents ≡ extended before.contents (refusal_line (NoOutput path)))) ⊎ IsEarly status

-- of a call that has no root, or is refused
abbrev pub ReportsRefused : Result Task Refusal → TreeState → TreeState → SinkState → SinkState → ℕ → Type 0
ReportsRefused requested before now err err_now status =
    HasNoRoot requested ⊎ IsRefusing status → AtMostOne before now (IsSaid err err_now status)

-- by how a step ended: a task is refused for the one, whose line is not put yet
abbrev pub CountsRefusals : Result Task Refusal → TreeState → TreeState → SinkState → SinkState → Result ℕ Halt → Type 0
CountsRefusals requested before now err err_now (Ok status) = ReportsRefused requested before now err err_now status
CountsRefusals requested before now err err_now (Err (Refused refusal)) = AtMostOne before now (λ path. refusal ≡ NoOutput path)
CountsRefusals requested before now err err_now (Err (Stopped stop)) = ReportsRefused requested before now err err_now (early_status stop)
