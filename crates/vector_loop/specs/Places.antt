-- Where a run stands, and one step of it: an instruction of the vector that runs, or the giving of what comes next (profile).
use Rattle.std.specs.Prelude.{◌≡◌, ℕ, zero, suc, ◌==◌, ◌≤◌, true, List, [], ◌∷◌, length, ◌⊎◌}
use Rattle.std.specs.Prelude.{if◌then◌else◌, Option, Some, None}
use Rattle.console_port.specs.Console.{event_byte}
use Rattle.text_lines.specs.Scripts.{ScriptView}
use Rattle.uxn_limits.specs.declared.ports.TheConstants.{CONSOLE_VECTOR, CONSOLE_READ, CONSOLE_TYPE}
use Rattle.varvara_bus.specs.History.{made_ready, stored_short}
use Rattle.vector_loop.specs.declared.pending_input.PendingInput.{PendingInput}
use Rattle.vector_loop.specs.declared.output.Outputs.{Outputs}
use Rattle.vector_loop.specs.State.{State, counting_cut, with_stored, is_over}
use Rattle.vector_loop.specs.Trace.{Trace, stays, followed_by}
use Rattle.vector_loop.specs.Vector.{at_break, instruction, instructions, begun_at}
use Rattle.vector_loop.specs.Event.{give_each}
use Rattle.vector_loop.specs.Run.{run}
use Rattle.vector_loop.specs.PendingInputs.{ConsoleByte, pending_inputs_of, given, console_byte_of, counted_input}

-- where a run stands: what was done so far, what is left of the budget of the vector that runs, 0 where the machine is idle, and
-- what is still to be given
pub record Place : Type 0 where
  pub done : Trace
  pub left : ℕ
  pub pending_inputs : List PendingInput

abbrev pub place : Trace → ℕ → List PendingInput → Place
place done left pending_inputs = record { done = done; left = left; pending_inputs = pending_inputs }

-- a run is over where its machine is idle and its state is not 0, or all was given
abbrev pub PlaceHasEnded : Place → Type 0
PlaceHasEnded now = (now.left ≡ 0) × ((is_over now.done.last ≡ true) ⊎ (now.pending_inputs ≡ []))

-- a vector that used up its budget is counted as a cut
abbrev pub cut_at : ℕ → State → State
cut_at zero state = record state { tally = counting_cut state.tally }
cut_at (suc less) state = state

-- one instruction, behind which so much of the budget is left
abbrev pub one_instruction : ℕ → State → Trace
one_instruction less state = record (instruction state) {
  last = if at_break state then (instruction state).last else cut_at less (instruction state).last;
}

unfoldable pub instruction_step : ℕ → Trace → List PendingInput → Place
instruction_step less done later = place (followed_by done (one_instruction less)) (if at_break done.last then 0 else less) later

-- no instruction is run, and the state is this one
abbrev pub come_to : State → Trace → Trace
come_to state done = record done { last = state }

-- the console holds a byte and its kind
abbrev pub holding : ConsoleByte → State → State
holding byte state = with_stored ((CONSOLE_READ, byte.0) ∷ (CONSOLE_TYPE, event_byte byte.1) ∷ []) state

-- its vector begins, unless it is 0
unfoldable pub vector_begins : ℕ → State → Trace → List PendingInput → Place
vector_begins budget held done later =
    let address = stored_short held.devices.history CONSOLE_VECTOR in
    if address == 0 then place (come_to held done) 0 later else place (come_to (begun_at address held) done) budget later

-- the console holds a byte, and its vector begins; what is not for the console is done in one step
abbrev pub giving_by : ℕ → Outputs → PendingInput → Option ConsoleByte → Trace → List PendingInput → Place
giving_by budget outputs input (Some byte) done later = vector_begins budget (holding byte (counted_input input done.last)) done later
giving_by budget outputs input None done later = place (followed_by done (given budget outputs input)) 0 later

-- an idle machine is given what comes next, unless its run is over
abbrev pub idle_step : ℕ → Outputs → Trace → List PendingInput → Place
idle_step budget outputs done [] = place done 0 []
idle_step budget outputs done (input ∷ later) =
    if is_over done.last then place done 0 (input ∷ later) else giving_by budget outputs input (console_byte_of input) done later

abbrev pub next_place : ℕ → Outputs → ℕ → Trace → List PendingInput → Place
next_place budget outputs zero done later = idle_step budget outputs done later
next_place budget outputs (suc less) done later = instruction_step less done later

-- the next step; where the run is over it changes nothing
unfoldable pub step : ℕ → Outputs → Place → Place
step budget outputs now = next_place budget outputs now.left now.done now.pending_inputs

-- so many steps
abbrev pub after_steps : ℕ → Outputs → ℕ → Place → Place
after_steps budget outputs zero begun = begun
after_steps budget outputs (suc count) begun = step budget outputs (after_steps budget outputs count begun)

-- where the run of a script begins: in the reset vector
abbrev pub run_begun : ℕ → ScriptView → State → Place
run_begun budget script state =
    place (stays (begun_at 0x0100 (with_stored (made_ready (length script.arguments)) state))) budget (pending_inputs_of script)

-- what is left of a run, as the reference run does it
abbrev pub vector_left : ℕ → State → Trace
vector_left zero state = stays state
vector_left (suc less) state = instructions (suc less) state

abbrev pub run_left : ℕ → Outputs → ℕ → List PendingInput → State → Trace
run_left budget outputs left later state = followed_by (vector_left left state) (give_each (given budget outputs) later)

-- what was done and what is left
abbrev pub whole_run : ℕ → Outputs → Place → Trace
whole_run budget outputs now = followed_by now.done (run_left budget outputs now.left now.pending_inputs)

-- the run of a script is the step again and again: after each of them what was done and what is left are the whole run, where it is
-- over all was done, and it is over after some number of them
pub record StepsAre (budget : ℕ) (outputs : Outputs) (script : ScriptView) (state : State) : Type 0 where
  pub parts : (count : ℕ) → whole_run budget outputs (after_steps budget outputs count (run_begun budget script state))
      ≡ run budget outputs script state
  pub end : (count : ℕ) → PlaceHasEnded (after_steps budget outputs count (run_begun budget script state))
      → (after_steps budget outputs count (run_begun budget script state)).done ≡ run budget outputs script state
  pub ends : (count : ℕ) × PlaceHasEnded (after_steps budget outputs count (run_begun budget script state))

abbrev pub StepLaw : Type 0
StepLaw = (budget : ℕ) (outputs : Outputs) (script : ScriptView) (state : State) → 1 ≤ budget → StepsAre budget outputs script state
