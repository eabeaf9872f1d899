-- The machines of a line, the run of each, and the stream of bytes that it hands on (profile).
use Rattle.std.specs.Prelude.{◌≡◌, ℕ, zero, suc, ◌≤◌, List, [], ◌∷◌, ◌++◌, map, pos, None}
use Rattle.std.specs.FinMap as nodes_map
use Rattle.std.specs.Prelude.{slice_index_or, Bool, false, IsTrue}
use Rattle.std.specs.List.{list_all}
use Rattle.uxn_limits.specs.declared.ports.TheConstants.{SYSTEM_STATE}
use Rattle.uxn_opcodes.specs.Rule.{new_core}
use Rattle.text_lines.specs.declared.script.Clock.{Clock}
use Rattle.text_lines.specs.declared.script.Event.{Event}
use Rattle.text_lines.specs.declared.script.Event.TheVariants.{Input, EndInput}
use Rattle.text_lines.specs.declared.script.Version.TheVariants.{First}
use Rattle.text_lines.specs.Scripts.{ScriptView, script_with}
use Rattle.system_port.specs.DebugText.{exit_code_of}
use Rattle.varvara_bus.specs.History.{stored}
use Rattle.varvara_bus.specs.declared.time.Clock.{Clock as BusClock}
use Rattle.varvara_bus.specs.State.{new_state}
use Rattle.vector_loop.specs.declared.pending_input.PendingInput.TheVariants.{OfEvent}
use Rattle.vector_loop.specs.State.{State, new_tally}
use Rattle.vector_loop.specs.Trace.{Trace}
use Rattle.vector_loop.specs.Run.{run}
use Rattle.vector_loop.specs.Places.{Place, PlaceHasEnded, after_steps, run_begun}
use Rattle.uxn_io_traits.specs.Outside.{put_by}
use Rattle.uxn_line.specs.Places.{is_for_console, no_outputs, put_in}

-- what a line is made of: a ROM for each machine, the script of the first one, and the budget of every vector
pub record LineJob : Type 0 where
  pub roms : List (List ℕ)
  pub script : ScriptView
  pub budget : ℕ

-- events that give the console a byte: bytes of input and ends of input
abbrev pub is_of_console : Event → Bool
is_of_console event = is_for_console (OfEvent event)

abbrev pub AreOfConsole : List Event → Type 0
AreOfConsole events = IsTrue (list_all is_of_console events)

-- the clock of a script
abbrev pub clock_by : Clock → BusClock
clock_by time = record { seconds = time.seconds; offset = time.offset }

-- the new machine of a ROM, with the clock of its script and no root
abbrev pub new_machine : List ℕ → Clock → State
new_machine rom time = record {
  core = new_core rom;
  devices = new_state (clock_by time) None nodes_map.empty false;
  tally = new_tally;
}

abbrev pub run_of : ℕ → List ℕ → ScriptView → Trace
run_of budget rom script = run budget no_outputs script (new_machine rom script.clock)

-- the script of bytes that are handed on: each as an input, and then the end
abbrev pub script_of_bytes : List ℕ → ScriptView
script_of_bytes bytes = script_with First (record { seconds = pos 0; offset = pos 0 }) [] (map (λ byte. Input byte) bytes ++ EndInput ∷ [])

-- the script of a machine, counted from 0, its run, and the bytes that it writes to port 18
abbrev pub rom_at : LineJob → ℕ → List ℕ
rom_at job machine = slice_index_or job.roms machine []

abbrev pub script_at : LineJob → ℕ → ScriptView
script_at job zero = job.script
script_at job (suc machine) = script_of_bytes (put_by (run_of job.budget (rom_at job machine) (script_at job machine)).changes)

abbrev pub run_of_machine : LineJob → ℕ → Trace
run_of_machine job machine = run_of job.budget (rom_at job machine) (script_at job machine)

abbrev pub stream : LineJob → ℕ → List ℕ
stream job machine = put_by (run_of_machine job machine).changes

-- the exit code of a run that ends in this state
abbrev pub exit_code_at : State → ℕ
exit_code_at state = exit_code_of (stored state.devices.history SYSTEM_STATE)

-- where the run of a machine begins
abbrev pub first_place : ℕ → List ℕ → ScriptView → Place
first_place budget rom script = run_begun budget script (new_machine rom script.clock)

-- where a machine of a line stands after so many turns
abbrev pub after : LineJob → ℕ → ℕ → Place
after job machine count = after_steps job.budget no_outputs count (first_place job.budget (rom_at job machine) (script_at job machine))

-- the events of the first script are of the console, and a vector may run an instruction
pub record IsJob (job : LineJob) : Type 0 where
  pub budget : 1 ≤ job.budget
  pub events : AreOfConsole job.script.events

-- turns follow a run: what was written so far is a prefix of its stream, and at the end all of it, in the last state of the run
pub record FollowsRun (now : Place) (whole : Trace) : Type 0 where
  pub rest : List ℕ
  pub prefix : put_by whole.changes ≡ put_in now ++ rest
  pub end : PlaceHasEnded now → (rest ≡ []) × (whole.last ≡ now.done.last)
