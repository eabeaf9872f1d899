-- What a line of a script means (profile), a row for each first word.
use Rattle.std.specs.Prelude.{ℕ, ◌==◌, if◌then◌else◌, pos, List, [], ◌∷◌, codes, replicate, map}
use Rattle.std.specs.Prelude.{Option, Some, None, option_map}
use Rattle.std.specs.List.{flat_map}
use Rattle.std.specs.Option.{ok_or, option_zip}
use Rattle.std.specs.Str.{bytes_eq}
use Rattle.uxn_limits.specs.declared.limits.TheConstants.{MOST_TIMES, LAST_SECOND, LAST_OFFSET}
use Rattle.text_lines.specs.Named.{Named, named, value_named}
use Rattle.text_lines.specs.Numbers.{byte_of, integer_within, number_within}
use Rattle.text_lines.specs.Reading.{Line}
use Rattle.text_lines.specs.Rows.{Rows, fault_named, keyword_of, line_by}
use Rattle.input_ports.specs.declared.Input.{Input as DeviceInput}
use Rattle.input_ports.specs.declared.Input.TheVariants.{Key, Down, Up, Mouse, Press, Release, Scroll, DownOf, UpOf}
use Rattle.text_lines.specs.declared.row.Counts.TheVariants.{Exactly, Between, AtLeast}
use Rattle.text_lines.specs.declared.script.Clock.{Clock}
use Rattle.text_lines.specs.declared.script.Event.{Event}
use Rattle.text_lines.specs.declared.script.Event.TheVariants.{Input, EndInput, Frame, Device, Shot, Expect}
use Rattle.text_lines.specs.declared.script.ScriptKind.{ScriptKind}
use Rattle.text_lines.specs.declared.script.ScriptKind.TheVariants.{Unknown, BadValue, Missing, Extra}
use Rattle.text_lines.specs.declared.script.Version.{Version}
use Rattle.text_lines.specs.declared.script.Version.TheVariants.{First, Second}
use Rattle.text_lines.specs.declared.script_word.Keyword.{Keyword}
use Rattle.text_lines.specs.declared.script_word.Keyword.TheVariants as word
use Rattle.text_lines.specs.ScriptValues.{texts_of_values, one_or}

-- what a line means
pub data Meaning : Type 0 where
  version : Meaning
  clock : Clock → Meaning
  arguments : List (List ℕ) → Meaning
  events : List Event → Meaning

abbrev pub event : Event → Meaning
event e = events (e ∷ [])

-- an event for each byte of texts
abbrev pub inputs_of : List (List ℕ) → List Event
inputs_of each = flat_map (λ text. map Input text) each

-- the buttons of a player
abbrev pub down_of : ℕ → ℕ → DeviceInput
down_of mask player = if player == 1 then Down mask else DownOf player mask

abbrev pub up_of : ℕ → ℕ → DeviceInput
up_of mask player = if player == 1 then Up mask else UpOf player mask

-- the values that version 1 does not have
abbrev pub further : Version → List (List ℕ) → List (List ℕ)
further First values = []
further Second values = values

-- what values make, as many as a line takes; nothing where one is not of its form or range
unfoldable pub version_of : Version → List (List ℕ) → Option Meaning
version_of First values = None
version_of Second [] = None
version_of Second (n ∷ more) = if bytes_eq n (codes "2") then Some version else None

unfoldable pub clock_of_values : List (List ℕ) → Option Clock
clock_of_values (s ∷ m ∷ more) = option_map (λ both. record { seconds = pos both.0; offset = both.1 })
    (option_zip (number_within 0 LAST_SECOND s) (integer_within LAST_OFFSET LAST_OFFSET m))
clock_of_values _ = None

unfoldable pub keys_of : Version → List (List ℕ) → Option (List Event)
keys_of number [] = None
keys_of number (b ∷ more) =
    option_map (λ both. replicate both.1 (Device (Key both.0))) (option_zip (byte_of b) (one_or MOST_TIMES (further number more)))

unfoldable pub expect_of : Version → List (List ℕ) → Option (List Event)
expect_of Second (p ∷ b ∷ more) = option_map (λ both. Expect both.0 both.1 ∷ []) (option_zip (byte_of p) (byte_of b))
expect_of _ _ = None

-- the controller's buttons with their bits (Varvara device reference)
abbrev pub buttons : Named ℕ
buttons =
    named (codes "a") 0x01 ∷ named (codes "b") 0x02 ∷ named (codes "select") 0x04 ∷ named (codes "start") 0x08 ∷
    named (codes "up") 0x10 ∷ named (codes "down") 0x20 ∷ named (codes "left") 0x40 ∷ named (codes "right") 0x80 ∷ []

-- the mouse's buttons, by their numbers
abbrev pub mouse_buttons : Named ℕ
mouse_buttons =
    named (codes "1") 0x01 ∷ named (codes "2") 0x02 ∷ named (codes "3") 0x04 ∷ named (codes "4") 0x08 ∷
    named (codes "5") 0x10 ∷ named (codes "6") 0x20 ∷ named (codes "7") 0x40 ∷ named (codes "8") 0x80 ∷ []

-- what values make of a player's buttons, of the mouse's buttons, of numbers of columns and rows, and of a wheel's ways
unfoldable pub buttons_of : (ℕ → ℕ → DeviceInput) → Version → List (List ℕ) → Option DeviceInput
buttons_of input number [] = None
buttons_of input number (b ∷ more) = option_map (λ both. input both.0 both.1) (option_zip (value_named buttons b) (one_or 4 (further number more)))

unfoldable pub mouse_buttons_of : (ℕ → DeviceInput) → List (List ℕ) → Option DeviceInput
mouse_buttons_of input [] = None
mouse_buttons_of input (n ∷ more) = option_map input (value_named mouse_buttons n)

unfoldable pub mouse_of : List (List ℕ) → Option DeviceInput
mouse_of (x ∷ y ∷ more) = option_map (λ at. Mouse at.0 at.1) (option_zip (number_within 0 65535 x) (number_within 0 65535 y))
mouse_of _ = None

unfoldable pub scroll_of : List (List ℕ) → Option DeviceInput
scroll_of (x ∷ y ∷ more) = option_map (λ by. Scroll by.0 by.1) (option_zip (integer_within 32768 32767 x) (integer_within 32768 32767 y))
scroll_of _ = None

-- what the values behind each first word make
unfoldable pub device_of : Keyword → Version → List (List ℕ) → Option DeviceInput
device_of word.Down number values = buttons_of down_of number values
device_of word.Up number values = buttons_of up_of number values
device_of word.Mouse number values = mouse_of values
device_of word.Press number values = mouse_buttons_of Press values
device_of word.Release number values = mouse_buttons_of Release values
device_of word.Scroll number values = scroll_of values
device_of _ number values = None

unfoldable pub events_of_line : Keyword → Version → List (List ℕ) → Option (List Event)
events_of_line word.Input number values = option_map inputs_of (texts_of_values values)
events_of_line word.End number values = Some (EndInput ∷ [])
events_of_line word.Frame number values = option_map (λ count. replicate count Frame) (one_or MOST_TIMES values)
events_of_line word.Key number values = keys_of number values
events_of_line word.Shot number values = Some (Shot ∷ [])
events_of_line word.Expect number values = expect_of number values
events_of_line keyword number values = option_map (λ input. Device input ∷ []) (device_of keyword number values)

unfoldable pub script_meaning_of : Keyword → Version → List (List ℕ) → Option Meaning
script_meaning_of word.Script number values = version_of number values
script_meaning_of word.Clock number values = option_map clock (clock_of_values values)
script_meaning_of word.Args number values = option_map arguments (texts_of_values values)
script_meaning_of keyword number values = option_map events (events_of_line keyword number values)

-- the lines of version 1
abbrev pub first_rows : Rows Keyword
first_rows =
    named (codes "frame") (Between 0 1, word.Frame) ∷
    named (codes "clock") (Exactly 2, word.Clock) ∷
    named (codes "args") (AtLeast 1, word.Args) ∷
    named (codes "input") (AtLeast 1, word.Input) ∷
    named (codes "end") (Exactly 0, word.End) ∷
    named (codes "key") (Exactly 1, word.Key) ∷
    named (codes "down") (Exactly 1, word.Down) ∷
    named (codes "up") (Exactly 1, word.Up) ∷
    named (codes "mouse") (Exactly 2, word.Mouse) ∷
    named (codes "press") (Exactly 1, word.Press) ∷
    named (codes "release") (Exactly 1, word.Release) ∷
    named (codes "scroll") (Exactly 2, word.Scroll) ∷
    named (codes "shot") (Exactly 0, word.Shot) ∷
    []

-- the lines of version 2; a row that it has in place of one of version 1 is found first
abbrev pub second_rows : Rows Keyword
second_rows =
    named (codes "script") (Exactly 1, word.Script) ∷
    named (codes "expect") (Exactly 2, word.Expect) ∷
    named (codes "key") (Between 1 2, word.Key) ∷
    named (codes "down") (Between 1 2, word.Down) ∷
    named (codes "up") (Between 1 2, word.Up) ∷
    first_rows

unfoldable pub rows_of : Version → Rows Keyword
rows_of First = first_rows
rows_of Second = second_rows

-- what the words of a line mean, or what is wrong with them; a line without words or with `#` before its first means nothing
unfoldable pub script_line_of : Version → List (List ℕ) → Line Meaning ScriptKind
script_line_of number words =
    line_by (fault_named Unknown Missing Extra)
    (λ keyword values. ok_or (script_meaning_of keyword number values) BadValue) (keyword_of (rows_of number) words)
