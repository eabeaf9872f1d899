-- What is run: a ROM with a script, as a task asks; and the commands of a debugger that watches it.
use Rattle.std.specs.Prelude.{ℕ, Bool, unwrap_or, List, [], ◌++◌, codes, decimal, Option, Some, None, option_map}
use Rattle.std.specs.FinMap as nodes_map
use Rattle.uxn_io_traits.specs.Files.{Nodes}
use Rattle.file_ports.specs.RootPart.{below, parent_is_folder}
use Rattle.uxn_opcodes.specs.declared.Core.{Core}
use Rattle.uxn_opcodes.specs.Rule.{new_core}
use Rattle.text_lines.specs.declared.script.Version.{Version}
use Rattle.text_lines.specs.declared.script.Version.TheVariants.{First, Second}
use Rattle.text_lines.specs.Scripts.{ScriptView}
use Rattle.varvara_bus.specs.State.{DeviceState, new_state}
use Rattle.vector_loop.specs.declared.tally.Tally.{Tally}
use Rattle.vector_loop.specs.State.{State, new_tally}
use Rattle.vector_loop.specs.Trace.{Trace}
use Rattle.vector_loop.specs.declared.output.Outputs.{Outputs}
use Rattle.vector_loop.specs.Run.{run}
use Rattle.tal_words.specs.declared.name.Label.{Label}
use Rattle.uxn_debugger.specs.declared.command.DebugCommand.{DebugCommand}
use Rattle.uxn_debugger.specs.Log.{log_over}
use Rattle.uxn_line.specs.Streams.{clock_by, exit_code_at}
use Rattle.uxn_arguments.specs.Options.{run_outputs}
use Rattle.uxn_arguments.specs.declared.task.DebugTask.{DebugTask}
use Rattle.uxn_arguments.specs.declared.task.RunTask.{RunTask}
use Rattle.uxn_cli.specs.World.{Text, requested_output}
use Rattle.uxn_cli.specs.declared.running.RunEnd.{RunEnd}

-- what a debugger does: what it is asked, its commands, and the labels that its log names
pub record Debugging : Type 0 where
  pub task : DebugTask
  pub commands : List DebugCommand
  pub labels : List Label

abbrev pub debugging : DebugTask → List DebugCommand → List Label → Debugging
debugging task commands labels = record { task = task; commands = commands; labels = labels }

-- the folder of a program's own files: its path, where one is given; what lies there and beneath it; and whether its parent is
-- a folder
pub record RootView : Type 0 where
  pub root : Option (List ℕ)
  pub part : Nodes
  pub parent : Bool

-- as the files of a tree have it, where they are known
abbrev pub root_view_in : Option Nodes → Option (List ℕ) → RootView
root_view_in files root =
    let nodes = unwrap_or files nodes_map.empty in record { root = root; part = below root nodes; parent = parent_is_folder root nodes }

abbrev pub no_root_view : RootView
no_root_view = root_view_in None None

pub record RunJob : Type 0 where
  pub task : RunTask
  pub rom : List ℕ
  pub script : ScriptView
  pub debug : Option Debugging

-- the files that it writes, in order
abbrev pub job_outputs : RunJob → List (List ℕ)
job_outputs job = run_outputs job.task (option_map (λ debugging. debugging.task) job.debug)

-- the files that it appends to while it runs
abbrev pub wanted_outputs : Option (List ℕ) → Option (List ℕ) → Outputs
wanted_outputs frames samples = record { frames = frames; samples = samples }

-- a new machine, and the reference run from there
abbrev pub first_devices : ScriptView → RootView → DeviceState
first_devices script root_view = new_state (clock_by script.clock) root_view.root root_view.part root_view.parent

abbrev pub first_state : Core → ScriptView → RootView → State
first_state core script root_view = record { core = core; devices = first_devices script root_view; tally = new_tally }

unfoldable pub reference_trace : ℕ → Outputs → ScriptView → RootView → Core → Trace
reference_trace budget outputs script root_view core = run budget outputs script (first_state core script root_view)

-- that of the ROM, from what lies beneath the root in a tree
abbrev pub trace_of : Option Nodes → RunJob → Trace
trace_of files job = reference_trace job.task.budget (wanted_outputs job.task.frames job.task.samples) job.script
    (root_view_in files job.task.root) (new_core job.rom)

-- how a run ended, by its last state
abbrev pub run_end : State → RunEnd
run_end state = record { exit = exit_code_at state; tally = state.tally }

-- a line of a report: a word and a number
abbrev pub report_line : List ℕ → ℕ → List ℕ
report_line name count = name ++ codes " " ++ decimal count ++ codes "\n"

-- the lines of what only version 2 has
abbrev pub further_lines : Version → Tally → List ℕ
further_lines First tally = []
further_lines Second tally = report_line (codes "expects") tally.expects ++ report_line (codes "misses") tally.misses

-- the lines of both versions
unfoldable pub common_lines : ℕ → Tally → List ℕ
common_lines exit tally =
    report_line (codes "exit") exit
    ++ report_line (codes "instructions") tally.instructions
    ++ report_line (codes "vectors") tally.vectors
    ++ report_line (codes "cuts") tally.cuts
    ++ report_line (codes "events") tally.events
    ++ report_line (codes "frames") tally.frames
    ++ report_line (codes "shots") tally.shots

-- the report of a run: its exit code and what was counted
unfoldable pub report_text : Version → ℕ → Tally → List ℕ
report_text version exit tally = common_lines exit tally ++ further_lines version tally

abbrev pub report_of : Option (List ℕ) → Version → State → List Text
report_of path version end = requested_output path (report_text version (exit_code_at end) end.tally)

-- the log of a debugger over a whole run
abbrev pub log_texts : Option Debugging → Trace → List Text
log_texts None trace = []
log_texts (Some debugging) trace = requested_output (Some debugging.task.log) (log_over debugging.labels debugging.commands trace)
