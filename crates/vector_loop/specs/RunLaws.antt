-- What holds of a whole run, since it holds of an instruction, of an append, and of one part after another.
use Rattle.std.specs.Prelude.{◌≡◌, ℕ, zero, suc, ◌+◌, ◌*◌, ◌==◌, Bool, true, false, refl}
use Rattle.std.specs.Prelude.{List, [], ◌∷◌, length, slice_index_or}
use Rattle.std.proofs.Common.{cond}
use Rattle.input_ports.specs.declared.Input.{Input as DeviceInput}
use Rattle.input_ports.specs.Page.{stores_of, stores_after, vector_of}
use Rattle.audio_mixer.specs.Sounds.{frame_of, endings}
use Rattle.console_port.specs.Console.{event_byte}
use Rattle.console_port.specs.declared.EventKind.{EventKind}
use Rattle.console_port.specs.declared.EventKind.TheVariants as event_kind
use Rattle.text_lines.specs.declared.script.Event.{Event}
use Rattle.text_lines.specs.declared.script.Event.TheVariants.{Input, EndInput, Frame, Device, Shot, Expect}
use Rattle.text_lines.specs.Scripts.{ScriptView}
use Rattle.uxn_limits.specs.declared.ports.TheConstants.{CONSOLE_VECTOR, CONSOLE_READ, CONSOLE_TYPE, SCREEN_VECTOR, AUDIO_VECTOR, VOICE_PORTS}
use Rattle.varvara_bus.specs.History.{Store, made_ready, stored, stored_short}
use Rattle.varvara_bus.specs.ReadsPort.{read_of}
use Rattle.varvara_bus.specs.State.{DeviceState}
use Rattle.vector_loop.specs.declared.tally.Tally.{Tally}
use Rattle.vector_loop.specs.declared.output.Outputs.{Outputs}
use Rattle.vector_loop.specs.declared.pending_input.PendingInput.{PendingInput}
use Rattle.vector_loop.specs.declared.pending_input.PendingInput.TheVariants.{OfArgument, OfEvent}
use Rattle.vector_loop.specs.State.{State, counting_cut, counting_event, counting_expect, with_stored, with_next_frame}
use Rattle.vector_loop.specs.State.{with_rendered, with_refreshed, with_counted, is_over}
use Rattle.vector_loop.specs.Trace.{Trace, stays, makes, followed_by}
use Rattle.vector_loop.specs.Outputs.{appended_to, picture_bytes, samples_bytes}
use Rattle.vector_loop.specs.Vector.{at_break, instruction, instructions, begun_at, vector}
use Rattle.vector_loop.specs.Event.{vector_in, unless_over, give_each, console, device, expected, samples_kept, vector_where, ended_vectors}
use Rattle.vector_loop.specs.Event.{heard, shown_and_heard, frame, shot, happens, give}
use Rattle.vector_loop.specs.PendingInputs.{pending_inputs_of, given}
use Rattle.vector_loop.specs.Run.{run}

-- states that differ in no byte of the memory and the stacks, in no file, and in no count of instructions
pub record Alike (before now : State) : Type 0 where
  pub memory : now.core.memory ≡ before.core.memory
  pub working : now.core.working ≡ before.core.working
  pub returns : now.core.returns ≡ before.core.returns
  pub root : now.devices.root ≡ before.devices.root
  pub first : now.devices.first_file ≡ before.devices.first_file
  pub second : now.devices.second_file ≡ before.devices.second_file
  pub count : now.tally.instructions ≡ before.tally.instructions

-- what holds of a part, by the state that it begins from: of nothing, of an instruction, of what is appended to an output, of a part and
-- what follows it, and from a state where it does from one that is alike
pub record HoldsOn (outputs : Outputs) (Q : State → Trace → Type 0) : Type 0 where
  pub nothing : (state : State) → Q state (stays state)
  pub one : (state : State) → Q state (instruction state)
  pub frames : (bytes : List ℕ) (state : State) → Q state (makes (appended_to outputs.frames bytes) state)
  pub samples : (bytes : List ℕ) (state : State) → Q state (makes (appended_to outputs.samples bytes) state)
  pub then : (state : State) (first : Trace) (rest : State → Trace) → Q state first → ((s : State) → Q s (rest s))
      → Q state (followed_by first rest)
  pub alike : (before now : State) (part : Trace) → Alike before now → Q now part → Q before part

-- another core and other devices with the same bytes and files, and another tally with the same count
alike-by : (state : State) (at : ℕ) (devices : DeviceState) (tally : Tally) → devices.root ≡ state.devices.root
    → devices.first_file ≡ state.devices.first_file → devices.second_file ≡ state.devices.second_file
    → tally.instructions ≡ state.tally.instructions
    → Alike state (record { core = record state.core { at = at }; devices = devices; tally = tally })
alike-by state at devices tally root first second count =
    record { memory = refl; working = refl; returns = refl; root = root; first = first; second = second; count = count }

-- no event and no expect counts an instruction
event-count : (event : Event) (tally : Tally) → (counting_event event tally).instructions ≡ tally.instructions
event-count Frame tally = refl
event-count _ tally = refl

expect-count : (hit : Bool) (tally : Tally) → (counting_expect hit tally).instructions ≡ tally.instructions
expect-count true tally = refl
expect-count false tally = refl

module _ (outputs : Outputs) (Q : State → Trace → Type 0) (holds : HoldsOn outputs Q) where
  -- of a part, from every state
  abbrev All : (State → Trace) → Type 0
  All part = (state : State) → Q state (part state)

  -- of either of two parts
  either : (is : Bool) (state : State) (one other : Trace) → Q state one → Q state other → Q state (cond is one other)
  either true state one other this that = this
  either false state one other this that = that

  -- where something is counted or stored first
  counted-holds : (tally : Tally) (part : State → Trace) (state : State) → tally.instructions ≡ state.tally.instructions
      → Q (record state { tally = tally }) (part (record state { tally = tally })) → Q state (part (record state { tally = tally }))
  counted-holds tally part state same all =
      holds.alike state (record state { tally = tally }) (part (record state { tally = tally }))
      (alike-by state state.core.at state.devices tally refl refl refl same) all

  stored-holds : (stores : List Store) (part : State → Trace) → All part → All (λ s. part (with_stored stores s))
  stored-holds stores part all state =
      let now = with_stored stores state in
      holds.alike state now (part now) (alike-by state state.core.at now.devices state.tally refl refl refl refl) (all now)

  instructions-hold : (left : ℕ) → All (instructions left)
  unfolding instructions
  instructions-hold zero state =
      counted-holds (counting_cut state.tally) stays state refl (holds.nothing (record state { tally = counting_cut state.tally }))
  instructions-hold (suc left) state =
      either (at_break state) state (instruction state) (followed_by (instruction state) (instructions left)) (holds.one state)
      (holds.then state (instruction state) (instructions left) (holds.one state) (instructions-hold left))

  vector-holds : (budget address : ℕ) → All (vector budget address)
  unfolding vector
  vector-holds budget address state =
      let begun = begun_at address state in
      holds.alike state begun (instructions budget begun) (alike-by state address state.devices begun.tally refl refl refl refl)
      (instructions-hold budget begun)

  vector_in-holds : (budget port : ℕ) → All (vector_in budget port)
  unfolding vector_in
  vector_in-holds budget port state =
      let address = stored_short state.devices.history port in
      either (address == 0) state (stays state) (vector budget address state) (holds.nothing state) (vector-holds budget address state)

  unless_over-holds : (rest : State → Trace) → All rest → All (unless_over rest)
  unfolding unless_over
  unless_over-holds rest all state = either (is_over state) state (stays state) (rest state) (holds.nothing state) (all state)

  console-holds : (budget byte : ℕ) (kind : EventKind) → All (console budget byte kind)
  unfolding console
  console-holds budget byte kind =
      stored-holds ((CONSOLE_READ, byte) ∷ (CONSOLE_TYPE, event_byte kind) ∷ [])
      (vector_in budget CONSOLE_VECTOR) (vector_in-holds budget CONSOLE_VECTOR)

  device-holds : (budget : ℕ) (input : DeviceInput) → All (device budget input)
  unfolding device
  device-holds budget input state =
      let stores = stores_of (stored state.devices.history) input in
      let settles : State → Trace = λ after. stays (with_stored (stores_after input) after) in
      holds.then state (vector_in budget (vector_of input) (with_stored stores state)) (unless_over settles)
      (stored-holds stores (vector_in budget (vector_of input)) (vector_in-holds budget (vector_of input)) state)
      (unless_over-holds settles (stored-holds (stores_after input) stays holds.nothing))

  each-holds : {X : Type 0} (given : X → State → Trace) (items : List X) → ((item : X) → All (given item)) → All (give_each given items)
  unfolding give_each
  each-holds given [] all state = holds.nothing state
  each-holds given (first ∷ rest) all state =
      holds.then state (unless_over (given first) state) (give_each given rest) (unless_over-holds (given first) (all first) state)
      (each-holds given rest all)

  heard-holds : (budget : ℕ) → All (heard budget outputs)
  unfolding heard
  heard-holds budget state =
      let ended = endings 735 state.devices.sounds in
      let after = with_rendered state in
      holds.then state (samples_kept outputs state) (ended_vectors budget ended)
      (holds.alike state after (samples_kept outputs state) (alike-by state state.core.at after.devices state.tally refl refl refl refl)
      (holds.samples (samples_bytes (frame_of state.core.memory state.devices.sounds)) after))
      (each-holds (λ voice. vector_where budget (slice_index_or ended voice false) voice) (0 ∷ 1 ∷ 2 ∷ 3 ∷ []) (λ voice s.
      either (slice_index_or ended voice false) s (vector_in budget (AUDIO_VECTOR + VOICE_PORTS * voice) s) (stays s)
      (vector_in-holds budget (AUDIO_VECTOR + VOICE_PORTS * voice) s) (holds.nothing s)))

  shown-holds : (budget : ℕ) → All (shown_and_heard budget outputs)
  unfolding shown_and_heard
  shown-holds budget state =
      holds.then state (vector_in budget SCREEN_VECTOR state) (unless_over (heard budget outputs)) (vector_in-holds budget SCREEN_VECTOR state)
      (unless_over-holds (heard budget outputs) (heard-holds budget))

  shot-holds : All (shot outputs)
  unfolding shot
  shot-holds state =
      let after = with_refreshed state in
      holds.alike state after (shot outputs state) (alike-by state state.core.at after.devices state.tally refl refl refl refl)
      (holds.frames (picture_bytes state.devices) after)

  happens-holds : (budget : ℕ) (event : Event) → All (happens budget outputs event)
  unfolding frame expected
  happens-holds budget (Input byte) state = console-holds budget byte event_kind.Input state
  happens-holds budget EndInput state = console-holds budget 0 event_kind.End state
  happens-holds budget (Device input) state = device-holds budget input state
  happens-holds budget Frame state =
      let begun = with_next_frame state in
      holds.alike state begun (shown_and_heard budget outputs begun)
      (alike-by state state.core.at begun.devices state.tally refl refl refl refl) (shown-holds budget begun)
  happens-holds budget Shot state = shot-holds state
  happens-holds budget (Expect port byte) state =
      let hit = read_of state.devices state.core port == byte in
      let after = counting_expect hit state.tally in
      counted-holds after stays state (expect-count hit state.tally) (holds.nothing (record state { tally = after }))

  given-holds : (budget : ℕ) (pending_input : PendingInput) → All (given budget outputs pending_input)
  unfolding give
  given-holds budget (OfArgument byte kind) state = console-holds budget byte kind state
  given-holds budget (OfEvent event) state =
      counted-holds (counting_event event state.tally) (happens budget outputs event) state (event-count event state.tally)
      (happens-holds budget event (with_counted event state))

  -- so it holds of a whole run
  pub run-holds : (budget : ℕ) (script : ScriptView) (state : State) → Q state (run budget outputs script state)
  unfolding run
  run-holds budget script state =
      let stores = made_ready (length script.arguments) in
      let inputs = give_each (given budget outputs) (pending_inputs_of script) in
      holds.then state (vector budget 0x0100 (with_stored stores state)) inputs
      (stored-holds stores (vector budget 0x0100) (vector-holds budget 0x0100) state)
      (each-holds (given budget outputs) (pending_inputs_of script) (given-holds budget))
