-- What an event of a run does (Varvara device reference; profile: the order).
use Rattle.std.specs.Prelude.{ℕ, ◌+◌, ◌*◌, ◌==◌, Bool, false, List, [], ◌∷◌, if◌then◌else◌, slice_index_or}
use Rattle.input_ports.specs.declared.Input.{Input as DeviceInput}
use Rattle.input_ports.specs.Page.{stores_of, stores_after, vector_of}
use Rattle.console_port.specs.Console.{event_byte}
use Rattle.console_port.specs.declared.EventKind.{EventKind}
use Rattle.console_port.specs.declared.EventKind.TheVariants as event_kind
use Rattle.text_lines.specs.declared.script.Event.{Event}
use Rattle.text_lines.specs.declared.script.Event.TheVariants.{Input, EndInput, Frame, Device, Shot, Expect}
use Rattle.audio_mixer.specs.Sounds.{frame_of, endings}
use Rattle.uxn_limits.specs.declared.ports.TheConstants.{CONSOLE_VECTOR, CONSOLE_READ, CONSOLE_TYPE, SCREEN_VECTOR, AUDIO_VECTOR, VOICE_PORTS}
use Rattle.varvara_bus.specs.History.{stored, stored_short}
use Rattle.varvara_bus.specs.ReadsPort.{read_of}
use Rattle.vector_loop.specs.declared.output.Outputs.{Outputs}
use Rattle.vector_loop.specs.State.{State, counting_expect, with_stored, with_next_frame, with_rendered, with_refreshed, with_counted, is_over}
use Rattle.vector_loop.specs.Trace.{Trace, stays, makes, followed_by}
use Rattle.vector_loop.specs.Outputs.{appended_to, picture_bytes, samples_bytes}
use Rattle.vector_loop.specs.Vector.{vector}

-- the vector whose address is the short in two ports; none is run where it is 0
abbrev pub vector_at : ℕ → ℕ → State → Trace
vector_at budget address state = if address == 0 then stays state else vector budget address state

unfoldable pub vector_in : ℕ → ℕ → State → Trace
vector_in budget port state = vector_at budget (stored_short state.devices.history port) state

-- nothing more is done where the run is over
unfoldable pub unless_over : (State → Trace) → State → Trace
unless_over rest state = if is_over state then stays state else rest state

-- one thing after the other is given, each unless the run is over
unfoldable pub give_each : {X : Type 0} → (X → State → Trace) → List X → State → Trace
give_each given [] state = stays state
give_each given (first ∷ rest) state = followed_by (unless_over (given first) state) (give_each given rest)

-- the console is given a byte of this kind
unfoldable pub console : ℕ → ℕ → EventKind → State → Trace
console budget byte kind state = vector_in budget CONSOLE_VECTOR (with_stored ((CONSOLE_READ, byte) ∷ (CONSOLE_TYPE, event_byte kind) ∷ []) state)

-- the controller or the mouse is given an input, which is settled after its vector
unfoldable pub device : ℕ → DeviceInput → State → Trace
device budget input state = followed_by (vector_in budget (vector_of input) (with_stored (stores_of
    (stored state.devices.history) input) state))
    (unless_over (λ after. stays (with_stored (stores_after input) after)))

-- 735 pairs of samples are rendered, and kept where they are requested
abbrev pub samples_kept : Outputs → State → Trace
samples_kept outputs state =
    makes (appended_to outputs.samples (samples_bytes (frame_of state.core.memory state.devices.sounds))) (with_rendered state)

-- the vector of a voice whose note has ended
abbrev pub vector_where : ℕ → Bool → ℕ → State → Trace
vector_where budget ended voice state = if ended then vector_in budget (AUDIO_VECTOR + VOICE_PORTS * voice) state else stays state

-- the vectors of the voices whose notes have ended, in order of their numbers
abbrev pub ended_vectors : ℕ → List Bool → State → Trace
ended_vectors budget ended = give_each (λ voice. vector_where budget (slice_index_or ended voice false) voice) (0 ∷ 1 ∷ 2 ∷ 3 ∷ [])

-- what is heard in a frame
unfoldable pub heard : ℕ → Outputs → State → Trace
heard budget outputs state = followed_by (samples_kept outputs state) (ended_vectors budget (endings 735 state.devices.sounds))

-- the screen's vector is run, and then all is done that is heard
unfoldable pub shown_and_heard : ℕ → Outputs → State → Trace
shown_and_heard budget outputs state = followed_by (vector_in budget SCREEN_VECTOR state) (unless_over (heard budget outputs))

-- a frame begins first
unfoldable pub frame : ℕ → Outputs → State → Trace
frame budget outputs state = shown_and_heard budget outputs (with_next_frame state)

-- the screen is refreshed, and the picture is kept where pictures are requested
unfoldable pub shot : Outputs → State → Trace
shot outputs state = makes (appended_to outputs.frames (picture_bytes state.devices)) (with_refreshed state)

-- what a port reads is compared with a byte: that changes the tally alone
unfoldable pub expected : ℕ → ℕ → State → Trace
expected port byte state = stays (record state { tally = counting_expect (read_of state.devices state.core port == byte) state.tally })

-- what each event of a script does, once it is counted
abbrev pub happens : ℕ → Outputs → Event → State → Trace
happens budget outputs (Input byte) = console budget byte event_kind.Input
happens budget outputs EndInput = console budget 0 event_kind.End
happens budget outputs (Device input) = device budget input
happens budget outputs Frame = frame budget outputs
happens budget outputs Shot = shot outputs
happens budget outputs (Expect port byte) = expected port byte

unfoldable pub give : ℕ → Outputs → Event → State → Trace
give budget outputs event state = happens budget outputs event (with_counted event state)
