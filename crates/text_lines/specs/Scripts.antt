-- What a script is: its version, and the clock, the arguments and the events of its lines, or its first faulty line (profile).
use Rattle.std.specs.Prelude.{ℕ, ◌+◌, Bool, ◌||◌, nat_lt, if◌then◌else◌}
use Rattle.std.specs.Prelude.{pos, List, [], ◌∷◌, codes, length, slice_get}
use Rattle.std.specs.Prelude.{Option, Some, None, is_some, Result}
use Rattle.std.specs.List.{flat_map}
use Rattle.std.specs.Option.{unwrap_or}
use Rattle.std.specs.Str.{bytes_eq}
use Rattle.uxn_limits.specs.declared.limits.TheConstants.{TEXT_LIMIT, MOST_EVENTS}
use Rattle.text_lines.specs.Lines.{lines_of, words_of}
use Rattle.text_lines.specs.Numbers.{begins_with}
use Rattle.text_lines.specs.Reading.{made, fault_if, text_by}
use Rattle.text_lines.specs.declared.script.Clock.{Clock}
use Rattle.text_lines.specs.declared.script.Event.{Event}
use Rattle.text_lines.specs.declared.script.ScriptKind.{ScriptKind}
use Rattle.text_lines.specs.declared.script.ScriptKind.TheVariants.{Late, ManyEvents, LongScript}
use Rattle.text_lines.specs.declared.script.Version.{Version}
use Rattle.text_lines.specs.declared.script.Version.TheVariants.{First, Second}
use Rattle.text_lines.specs.ScriptRows.{Meaning, version, clock, arguments, events, script_line_of}

-- what contracts see of a script
pub record ScriptView : Type 0 where
  pub version : Version
  pub clock : Clock
  pub arguments : List (List ℕ)
  pub events : List Event

abbrev pub script_with : Version → Clock → List (List ℕ) → List Event → ScriptView
script_with number time texts given = record { version = number; clock = time; arguments = texts; events = given }

abbrev pub version_number : Version → ℕ
version_number First = 1
version_number Second = 2

-- a script has version 2 where the first word of its first line with words is `script`
abbrev pub version_at : List (List ℕ) → Option Version
version_at [] = None
version_at (name ∷ values) =
    if begins_with 35 name then None
    else if bytes_eq name (codes "script") then Some Second
    else Some First

abbrev pub version_in : List (List ℕ) → Version
version_in [] = First
version_in (line ∷ lines) = unwrap_or (version_at (words_of line)) (version_in lines)

-- what a line gives
abbrev pub clocks_in : Meaning → List Clock
clocks_in (clock time) = time ∷ []
clocks_in _ = []

abbrev pub arguments_in : Meaning → List (List (List ℕ))
arguments_in (arguments texts) = texts ∷ []
arguments_in _ = []

abbrev pub events_in : Meaning → List Event
events_in (events given) = given
events_in _ = []

-- what lines gave, in order
pub record GatheredView : Type 0 where
  pub version : Version
  pub begun : Bool
  pub clock : Option Clock
  pub arguments : Option (List (List ℕ))
  pub events : List Event

abbrev pub gathered : Version → List Meaning → GatheredView
gathered number lines = record {
  version = number;
  begun = nat_lt 0 (length lines);
  clock = slice_get (flat_map clocks_in lines) 0;
  arguments = slice_get (flat_map arguments_in lines) 0;
  events = flat_map events_in lines;
}

-- what is wrong with a line behind those that gave this: `script` stands before all lines with words, `clock` and `args`
-- before each line that gives an event, and each stands once at most
abbrev pub gathering_fault : GatheredView → Meaning → Option ScriptKind
gathering_fault before version = fault_if before.begun Late
gathering_fault before (clock time) = fault_if (nat_lt 0 (length before.events) || is_some before.clock) Late
gathering_fault before (arguments texts) = fault_if (nat_lt 0 (length before.events) || is_some before.arguments) Late
gathering_fault before (events given) = fault_if (nat_lt MOST_EVENTS (length before.events + length given)) ManyEvents

abbrev pub script_fault : Version → List Meaning → Meaning → Option ScriptKind
script_fault number before line = gathering_fault (gathered number before) line

-- the script of all lines
abbrev pub finished_script : GatheredView → ScriptView
finished_script all = record {
  version = all.version;
  clock = unwrap_or all.clock (record { seconds = pos 0; offset = pos 0 });
  arguments = unwrap_or all.arguments [];
  events = all.events;
}

abbrev pub script_from : Version → List Meaning → ScriptView
script_from number lines = finished_script (gathered number lines)

-- the script of a text, or its first faulty line and the first fault there
abbrev pub script_in : Version → List ℕ → Result ScriptView (ℕ × ScriptKind)
script_in number text = made (script_from number) (text_by TEXT_LIMIT LongScript (script_fault number) (script_line_of number) text)

unfoldable pub script_of : List ℕ → Result ScriptView (ℕ × ScriptKind)
script_of text = script_in (version_in (lines_of text)) text
