-- What the code holds once the inputs of a task are accepted, as its plan; and what a run has before it begins.
use Rattle.std.specs.Prelude.{◌≡◌, ℕ, Bool, List, [], Option, option_map, Result, Ok, Err, IfSome}
use Rattle.std.specs.Global.{Vec}
use Rattle.uxn_io_traits.specs.Gives.{Gives}
use Rattle.uxn_io_traits.specs.Inquires.{Inquires}
use Rattle.uxn_io_traits.specs.Files.{Nodes}
use Rattle.uxn_io_traits.specs.State.{TreeState, SinkState}
use Rattle.uxn_opcodes.specs.Rule.{new_core}
use Rattle.text_lines.specs.Scripts.{ScriptView}
use Rattle.varvara_bus.specs.State.{DevicesRepresent, new_state}
use Rattle.varvara_bus.specs.declared.devices.Devices.{Devices}
use Rattle.uxn_arguments.specs.Options.{run_outputs}
use Rattle.uxn_arguments.specs.declared.task.DebugTask.{DebugTask}
use Rattle.uxn_arguments.specs.declared.task.RunTask.{RunTask}
use Rattle.uxn_arguments.specs.declared.task.Task.{Task}
use Rattle.uxn_arguments.specs.declared.task.Task.TheVariants as tasks
use Rattle.uxn_cli.specs.Made.{Made}
use Rattle.uxn_cli.specs.Outputs.{paths_of}
use Rattle.uxn_cli.specs.declared.task_files.refusal.Halt.{Halt}
use Rattle.uxn_line.specs.Streams.{clock_by}
use Rattle.uxn_debugger.specs.Watching.{new_undo}
use Rattle.uxn_cli.specs.declared.playing.Prepared.{Prepared}
use Rattle.uxn_cli.specs.declared.debugging.Session.{Session}
use Rattle.uxn_cli.specs.RunJob.{Debugging, RunJob, debugging}
use Rattle.uxn_cli.specs.Outside.{DoesWork, host_state}
use Rattle.uxn_cli.specs.Verdict.{Run, Print, Plan, planned, plan_of, run_plan_of}

-- a text that was made
abbrev pub printed_plan : Vec ℕ → Plan
printed_plan text = planned (Print text.items) []

-- devices are new: they represent new ones with this script and this root, whatever lies there
abbrev pub AreNew : Devices → ScriptView → Option (List ℕ) → Type 0
AreNew devices script root = (part : Nodes) (parent : Bool) → DevicesRepresent devices (new_state (clock_by script.clock) root part parent)

abbrev pub session_debugging : Session → Debugging
session_debugging session = debugging session.task session.commands.items session.labels.items

abbrev pub prepared_debugging : Prepared → Option Debugging
prepared_debugging prepared = option_map session_debugging prepared.session

-- of a ROM, which its machine has loaded
abbrev pub prepared_job : RunTask → List ℕ → Prepared → RunJob
prepared_job run rom prepared =
    record { task = run; rom = rom; script = prepared.machine.value.script; debug = prepared_debugging prepared }

abbrev pub prepared_plan : RunTask → List ℕ → Prepared → Plan
prepared_plan run rom prepared = planned (Run (prepared_job run rom prepared)) prepared.included.items

-- a run that is ready: its machine is new, its debugger keeps no moments yet, and can where commands go back, and its files are its outputs
pub record IsReadyRun (run : RunTask) (debug : Option DebugTask) (rom : List ℕ) (prepared : Prepared) : Type 0 where
  pub core : prepared.machine.value.core ≡ new_core rom
  pub devices : AreNew prepared.machine.value.devices prepared.machine.value.script run.root
  pub undo : IfSome prepared.session (λ session. session.undo ≡ new_undo session.commands.items)
  pub outputs : paths_of prepared.outputs.items ≡ run_outputs run debug

-- a run that is prepared: its inputs were accepted, it is ready, and its outputs were made
pub record IsPreparedRun (run : RunTask) (debug : Option DebugTask) (before now : TreeState) (prepared : Prepared) : Type 0 where
  pub start : TreeState
  pub rom : List ℕ
  pub asks : Inquires (prepared_plan run rom) (run_plan_of run debug) before start (Ok prepared)
  pub ready : IsReadyRun run debug rom prepared
  pub makes : Made prepared.included.items (run_outputs run debug) start now

-- to prepare a run ends so, or its task is refused or ends early, whatever the sinks are
abbrev pub Prepares : RunTask → Option DebugTask → TreeState → TreeState → Result Prepared Halt → Type 0
Prepares run debug before now (Ok prepared) = IsPreparedRun run debug before now prepared
Prepares run debug before now (Err halt) =
    (out err : SinkState) → DoesWork (Ok (tasks.Run run debug)) (host_state before out err) (host_state now out err) (Err halt)

-- the inputs of a task ask for this, as far as is known of the contents of the tree
abbrev pub IsPlanned : Option Nodes → Task → Plan → Type 0
IsPlanned contents task plan = Gives contents (plan_of task) (Ok plan)
