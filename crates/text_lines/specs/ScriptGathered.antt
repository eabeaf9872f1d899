-- What the lines read so far gave, and what one more line changes.
use Rattle.std.specs.Prelude.{◌≡◌, ◌≤◌, Bool, true, ℕ, List, ◌++◌}
use Rattle.std.specs.Prelude.{length, Option, Some, None, Result, Ok, Err, replicate, option_map}
use Rattle.std.specs.List.{All}
use Rattle.std.specs.Option.{IfSome}
use Rattle.uxn_limits.specs.declared.limits.TheConstants.{TEXT_LIMIT, MOST_EVENTS}
use Rattle.text_lines.specs.Reading.{Line}
use Rattle.text_lines.specs.declared.script.Clock.{Clock}
use Rattle.text_lines.specs.declared.script.Event.{Event}
use Rattle.text_lines.specs.declared.script.Version.{Version}
use Rattle.text_lines.specs.declared.script.ScriptKind.{ScriptKind}
use Rattle.text_lines.specs.declared.script.LineStop.{LineStop}
use Rattle.text_lines.specs.declared.script.LineStop.TheVariants.{Faulty, NoMemory}
use Rattle.text_lines.specs.declared.stop.TextStop.{TextStop}
use Rattle.text_lines.specs.declared.stop.TextStop.TheVariants.{Refused, NoMemory as OutOfMemory}
use Rattle.text_lines.specs.declared.script_line.Meaning.{Meaning as Read}
use Rattle.text_lines.specs.declared.script_line.Meaning.TheVariants.{VersionLine, ClockLine, Arguments, Inputs, Times}
use Rattle.text_lines.specs.ScriptHeld.{bytes_in}
use Rattle.text_lines.specs.ScriptLimits.{AreTexts, IsEvent, IsTime}
use Rattle.text_lines.specs.ScriptRows.{Meaning, version, clock, arguments, events, inputs_of}
use Rattle.text_lines.specs.Scripts.{GatheredView, gathering_fault}

-- what a meaning represents
abbrev pub shown : Read → Meaning
shown VersionLine = version
shown (ClockLine time) = clock time
shown (Arguments texts) = arguments (bytes_in texts.items)
shown (Inputs texts) = events (inputs_of (bytes_in texts.items))
shown (Times given count) = events (replicate count given)

-- a line is read as it is defined, unless memory runs out
abbrev pub FitsLine : Result (Option Read) LineStop → Line Meaning ScriptKind → Type 0
FitsLine (Ok given) defined = defined ≡ Ok (option_map shown given)
FitsLine (Err (Faulty kind)) defined = defined ≡ Err kind
FitsLine (Err NoMemory) defined = Unit {0}

-- what a line of this version and of so many bytes may give
abbrev pub IsScriptRead : Version → ℕ → Read → Type 0
IsScriptRead number size VersionLine = Unit {0}
IsScriptRead number size (ClockLine time) = IsTime time
IsScriptRead number size (Arguments texts) = AreTexts size (bytes_in texts.items)
IsScriptRead number size (Inputs texts) = AreTexts size (bytes_in texts.items)
IsScriptRead number size (Times given count) = IsEvent number given

-- what the lines so far gave, by its parts
abbrev pub so_far : Version → Bool → Option Clock → Option (List (List ℕ)) → List Event → GatheredView
so_far number any time texts given = record { version = number; begun = any; clock = time; arguments = texts; events = given }

-- what the limits of scripts say of it
pub record IsGatheredScript (all : GatheredView) : Type 0 where
  pub time : IfSome all.clock IsTime
  pub texts : IfSome all.arguments (AreTexts TEXT_LIMIT)
  pub few : length all.events ≤ MOST_EVENTS
  pub given : All (IsEvent all.version) all.events

-- what stops a script whose line stops
abbrev pub at_line : ℕ → LineStop → TextStop ScriptKind
at_line line (Faulty kind) = Refused line kind
at_line line NoMemory = OutOfMemory

-- what the lines gave with one more
abbrev pub grown : GatheredView → Meaning → GatheredView
grown before version = record before { begun = true }
grown before (clock time) = record before { begun = true; clock = Some time }
grown before (arguments texts) = record before { begun = true; arguments = Some texts }
grown before (events given) = record before { begun = true; events = before.events ++ given }

-- a line without a fault is taken
abbrev pub TakesMeaning : GatheredView → Meaning → Result (Unit {0}) LineStop → GatheredView → Type 0
TakesMeaning before line (Ok _) after = (gathering_fault before line ≡ None) × (after ≡ grown before line)
TakesMeaning before line (Err (Faulty kind)) after = gathering_fault before line ≡ Some kind
TakesMeaning before line (Err NoMemory) after = Unit {0}

abbrev pub TakesLine : GatheredView → Line Meaning ScriptKind → Result (Unit {0}) LineStop → GatheredView → Type 0
TakesLine before (Ok (Some line)) result after = TakesMeaning before line result after
TakesLine before (Ok None) (Ok _) after = after ≡ before
TakesLine before (Ok None) (Err (Faulty kind)) after = ⊥
TakesLine before (Ok None) (Err NoMemory) after = Unit {0}
TakesLine before (Err kind) (Ok _) after = ⊥
TakesLine before (Err kind) (Err (Faulty found)) after = found ≡ kind
TakesLine before (Err kind) (Err NoMemory) after = Unit {0}
