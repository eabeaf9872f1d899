-- What a run is given, one thing at a time: the bytes of the arguments, and then the events (profile).
use Rattle.std.specs.Prelude.{ℕ, ◌==◌, if◌then◌else◌, List, [], ◌∷◌, ◌++◌, length, map, Option, Some, None}
use Rattle.console_port.specs.declared.EventKind.{EventKind}
use Rattle.console_port.specs.declared.EventKind.TheVariants as event_kind
use Rattle.text_lines.specs.Scripts.{ScriptView}
use Rattle.text_lines.specs.declared.script.Event.{Event}
use Rattle.text_lines.specs.declared.script.Event.TheVariants.{Input, EndInput}
use Rattle.vector_loop.specs.declared.pending_input.PendingInput.{PendingInput}
use Rattle.vector_loop.specs.declared.pending_input.PendingInput.TheVariants.{OfArgument, OfEvent}
use Rattle.vector_loop.specs.declared.output.Outputs.{Outputs}
use Rattle.vector_loop.specs.State.{State, with_counted}
use Rattle.vector_loop.specs.Trace.{Trace}
use Rattle.vector_loop.specs.Answers.{Count, none, both_counts, of_vectors, of_events}
use Rattle.vector_loop.specs.Event.{console, give}

-- a byte of the console with its kind
abbrev pub ConsoleByte : Type 0
ConsoleByte = ℕ × EventKind

-- behind an argument that so many follow stands a newline
abbrev pub kind_before : ℕ → EventKind
kind_before following = if following == 0 then event_kind.End else event_kind.Spacer

-- bytes that are left of an argument, and the newline behind it
abbrev pub argument_left : List ℕ → ℕ → List ConsoleByte
argument_left bytes following = map (λ byte. (byte, event_kind.Argument)) bytes ++ (10, kind_before following) ∷ []

-- the bytes of all arguments
unfoldable pub arguments_given : List (List ℕ) → List ConsoleByte
arguments_given [] = []
arguments_given (text ∷ texts) = argument_left text (length texts) ++ arguments_given texts

-- all that a script gives
abbrev pub of_argument : ConsoleByte → PendingInput
of_argument byte = OfArgument byte.0 byte.1

abbrev pub pending_inputs_of : ScriptView → List PendingInput
pending_inputs_of script = map of_argument (arguments_given script.arguments) ++ map OfEvent script.events

-- what these arguments, of the first of which these bytes are left, and these events give
abbrev pub pending_left : List ℕ → List (List ℕ) → List Event → List PendingInput
pending_left bytes [] events = map OfEvent events
pending_left bytes (text ∷ texts) events =
    map of_argument (argument_left bytes (length texts) ++ arguments_given texts) ++ map OfEvent events

-- what one of them does
abbrev pub given : ℕ → Outputs → PendingInput → State → Trace
given budget outputs (OfArgument byte kind) = console budget byte kind
given budget outputs (OfEvent event) = give budget outputs event

-- the byte that it gives the console, with its kind; none of an event that is not of the console
abbrev pub console_byte_of : PendingInput → Option ConsoleByte
console_byte_of (OfArgument byte kind) = Some (byte, kind)
console_byte_of (OfEvent (Input byte)) = Some (byte, event_kind.Input)
console_byte_of (OfEvent EndInput) = Some (0, event_kind.End)
console_byte_of (OfEvent event) = None

-- an event is counted as it begins
abbrev pub counted_input : PendingInput → State → State
counted_input (OfArgument byte kind) state = state
counted_input (OfEvent event) state = with_counted event state

-- how much is counted of them at most
abbrev pub input_count : PendingInput → Count
input_count (OfArgument byte kind) = of_vectors 1
input_count (OfEvent event) = of_events 1

abbrev pub counts_of : List PendingInput → Count
counts_of [] = none
counts_of (pending_input ∷ pending_inputs) = both_counts (input_count pending_input) (counts_of pending_inputs)
