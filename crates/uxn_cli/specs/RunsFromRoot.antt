-- What the run of a machine does, and what is written behind it.
use Rattle.std.specs.Prelude.{◌≡◌, ◌≤◌, ◌⊎◌, ℕ, List, ◌++◌, Option, None, Some}
use Rattle.std.specs.Prelude.{Result, Ok, Err, IfOk, IfErr, OnOk, IfSome, IsSome}
use Rattle.uxn_io_traits.specs.Ended.{Ended}
use Rattle.uxn_io_traits.specs.Faults.{Blame, Ledger}
use Rattle.uxn_io_traits.specs.Files.{Nodes}
use Rattle.uxn_io_traits.specs.Outside.{Change}
use Rattle.uxn_io_traits.specs.State.{Outside}
use Rattle.uxn_opcodes.specs.Ports.{result_blame}
use Rattle.uxn_opcodes.specs.declared.Core.{Core}
use Rattle.uxn_opcodes.specs.declared.Stop.{Stop}
use Rattle.uxn_opcodes.specs.declared.Stop.TheVariants.{NoMemory}
use Rattle.varvara_bus.specs.Bus.{FilesStay}
use Rattle.varvara_bus.specs.State.{HasFiles}
use Rattle.vector_loop.specs.Folders.{TraceTakesNames}
use Rattle.vector_loop.specs.Outputs.{IsOutput}
use Rattle.vector_loop.specs.Trace.{Trace}
use Rattle.vector_loop.specs.Watch.{Page, page_in, moment_of, shown_all}
use Rattle.vector_loop.specs.declared.watch.Moment.{Moment}
use Rattle.uxn_arguments.specs.declared.task.RunTask.{RunTask}
use Rattle.uxn_cli.specs.RunJob.{Debugging, RootView, wanted_outputs, reference_trace, run_end, log_texts}
use Rattle.uxn_cli.specs.Writing.{filling_all}
use Rattle.uxn_cli.specs.Outcome.{reporting}
use Rattle.uxn_cli.specs.declared.machine.Machine.{Machine}
use Rattle.uxn_cli.specs.declared.running.RunEnd.{RunEnd}
use Rattle.uxn_cli.specs.declared.running.Settings.{Settings}

-- this holds of the folder of a program's own files, as the contents of the tree have it
abbrev pub AtRootView : Option (List ℕ) → Option Nodes → (RootView → Type 0) → Type 0
AtRootView root tree P = (root_view : RootView) → root_view.root ≡ root
    → HasFiles tree root_view.root root_view.part root_view.parent → P root_view

-- how the machine of a task is run
abbrev pub task_settings : RunTask → Settings
task_settings task = record { outputs = wanted_outputs task.frames task.samples; budget = task.budget }

-- the run of a machine, from the folder of the program's own files
abbrev pub machine_trace : Settings → Machine → RootView → Trace
machine_trace settings machine root_view = reference_trace settings.budget settings.outputs machine.script root_view machine.core

abbrev pub task_trace : RunTask → Machine → RootView → Trace
task_trace task machine = machine_trace (task_settings task) machine

-- what is done by a run, its report, and the log of a debugger
abbrev pub reported_changes : RunTask → Machine → Trace → List Change
reported_changes task machine trace = reporting task.report machine.script.version trace

abbrev pub logged_changes : RunTask → Machine → Option Debugging → Trace → List Change
logged_changes task machine debug trace = reported_changes task machine trace ++ filling_all (log_texts debug trace)

-- the outputs of a run are files outside its root
pub record RunFiles (task : RunTask) (tree : Option Nodes) : Type 0 where
  pub frames : IfSome task.frames (IsOutput task.root tree)
  pub samples : IfSome task.samples (IsOutput task.root tree)
  pub report : IfSome task.report (IsOutput task.root tree)

-- who is to blame for a stop, if it stopped
abbrev pub blame_if : {A : Type 0} → Result A Stop → Option Blame
blame_if (Ok value) = None
blame_if (Err stop) = Some (result_blame {T = Unit {0}} (Err stop))

-- a trace was followed and these changes were made, or a prefix of them; memory ran out to a watcher, or where the trace takes the
-- names of a folder
pub record RunsOverOutside (trace : Trace) (changes : List Change) (watched : Type 0) (before now : Outside) (result : Result RunEnd Stop)
    : Type 0 where
  pub made : Ended changes (blame_if result) before now
  pub ends : IfOk result (λ end. end ≡ run_end trace.last)
  pub names : IfErr result (λ stop. stop ≡ NoMemory → watched ⊎ TraceTakesNames trace)

-- a machine was run beneath a root, on a trace that depends on what lies there, and what is to be written behind it was written
pub record RunsFromRoot (root : Option (List ℕ)) (trace : RootView → Trace) (changes : Trace → List Change) (watched : Type 0)
    (before now : Outside) (result : Result RunEnd Stop) : Type 0 where
  pub from : AtRootView root before.world.files
      (λ root_view. RunsOverOutside (trace root_view) (changes (trace root_view)) watched before now result)
  -- of a tree of unknown contents too: the count of whoever is to blame rose, memory ran out to a watcher or beneath a root,
  -- files outside the root stay, and the exit code is one
  pub ledger : Ledger before.faults now.faults (result_blame result)
  pub memory : IfErr result (λ stop. stop ≡ NoMemory → watched ⊎ IsSome root)
  pub files : OnOk result (FilesStay root before.world.files now.world.files)
  pub code : IfOk result (λ end. end.exit ≤ 127)

-- a watcher was shown all of a run, and its end
abbrev pub WasShown : {H : Type 0} → (H → Core → Page → Moment → H) → (H → Core → Page → Moment → H) → H → Trace → H
    → Type 0
WasShown shown ended before trace now =
    now ≡ ended (shown_all shown before trace.moments) trace.last.core (page_in trace.last) (moment_of trace.last)
