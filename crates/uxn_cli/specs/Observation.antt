-- A debugger changes nothing of a run but for its log: the log is made first and gets its bytes last, and all else is the run's.
use Rattle.std.specs.Prelude.{◌≡◌, ℕ, false, List, ◌∷◌, ◌++◌, Option, Some, None, Result, Ok}
use Rattle.std.specs.Str.{bytes_eq}
use Rattle.uxn_io_traits.specs.Files.{Nodes}
use Rattle.uxn_io_traits.specs.Outside.{Change, Creates, World, changed_by}
use Rattle.uxn_arguments.specs.Words.{task_of}
use Rattle.uxn_arguments.specs.declared.task.DebugTask.{DebugTask}
use Rattle.uxn_arguments.specs.declared.task.RunTask.{RunTask}
use Rattle.uxn_arguments.specs.declared.task.Task.TheVariants as tasks
use Rattle.uxn_cli.specs.declared.task_files.refusal.Refusal.{Refusal}
use Rattle.uxn_cli.specs.Request.{request}
use Rattle.uxn_cli.specs.Writing.{filling_all}
use Rattle.uxn_cli.specs.RunJob.{Debugging, RunJob, trace_of, log_texts}
use Rattle.uxn_cli.specs.Verdict.{Work, Run}
use Rattle.uxn_cli.specs.Outcome.{outcome_of, running, GivesOutcome}
use Rattle.uxn_cli.specs.Causes.{tree_verdict}

-- a run that nobody watches, and the same run under a debugger
abbrev pub unwatched : RunJob → RunJob
unwatched job = record job { debug = None }

abbrev pub watched : RunJob → Debugging → RunJob
watched job debugging = record job { debug = Some debugging }

-- the file of the log is made, the run is made, and the log is written
abbrev pub with_log : Option Nodes → RunJob → Debugging → List Change
with_log files job debugging =
    Creates debugging.task.log ∷ (running files (unwatched job) ++ filling_all (log_texts (Some debugging) (trace_of files job)))

pub record OnlyWatches : Type 0 where
  pub status : (files : Option Nodes) (job : RunJob) (debugging : Debugging)
      → (outcome_of files (Ok (Run (watched job debugging)))).status ≡ (outcome_of files (Ok (Run (unwatched job)))).status
  pub changes : (files : Option Nodes) (job : RunJob) (debugging : Debugging)
      → running files (watched job debugging) ≡ with_log files job debugging

-- words of `debug`, and words of `play` with the same items but the commands, the log and the symbols
pub record HaveSameItems (words others : List (List ℕ)) : Type 0 where
  pub run : RunTask
  pub debug : DebugTask
  pub debugs : task_of words ≡ Ok (tasks.Run run (Some debug))
  pub plays : task_of others ≡ Ok (tasks.Run run None)

-- `debug` results in a run under a debugger, and `play` in the same run
pub record ComeToOneRun (debugged played : Result Work Refusal) : Type 0 where
  pub job : RunJob
  pub debugging : Debugging
  pub debugs : debugged ≡ Ok (Run (watched job debugging))
  pub plays : played ≡ Ok (Run (unwatched job))

-- where a `debug` is accepted, it gives what `play` gives with the same items, but for the log
pub record ShowsWhatPlayDoes (nodes : Nodes) (words others : List (List ℕ)) (items : HaveSameItems words others) (work : Work) : Type 0 where
  pub run : ComeToOneRun (Ok work) (tree_verdict nodes (request others))
  pub given : (before : World) → GivesOutcome (outcome_of (Some nodes) (tree_verdict nodes (request others))) before
      items.run.root (λ path. bytes_eq path items.debug.log ≡ false)
      (changed_by before (outcome_of (Some nodes) (Ok work)).changes) (outcome_of (Some nodes) (Ok work)).status
