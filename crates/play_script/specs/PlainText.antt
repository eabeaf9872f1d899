-- The plain text of a script (profile): `script 2` where that is its version, a line for the clock, one for the arguments if
-- there are any, and one for each event, with single spaces between the words.
use Rattle.std.specs.Prelude.{ℕ, ◌==◌, if◌then◌else◌, List, [], ◌∷◌, ◌++◌, codes, length, map, decimal}
use Rattle.std.specs.List.{find, join_with_byte, flat_map}
use Rattle.std.specs.Option.{unwrap_or, option_map}
use Rattle.std.specs.Fmt.{signed_decimal}
use Rattle.hex.specs.Hex.{encode_lower}
use Rattle.text_lines.specs.Named.{Named}
use Rattle.text_lines.specs.declared.script.Clock.{Clock}
use Rattle.text_lines.specs.declared.script.Event.{Event}
use Rattle.text_lines.specs.declared.script.Version.{Version}
use Rattle.text_lines.specs.declared.script.Version.TheVariants.{First, Second}
use Rattle.text_lines.specs.declared.values.Value.{Value}
use Rattle.text_lines.specs.declared.values.Value.TheVariants.{Byte, Button, MouseButton, Player, Pixel, Turn, Seconds, Minutes}
use Rattle.text_lines.specs.ScriptRows.{buttons, mouse_buttons}
use Rattle.text_lines.specs.PlainEvents.{plain_event}
use Rattle.text_lines.specs.Scripts.{ScriptView}

-- bytes as a text word: pairs of lowercase hexadecimal digits, or `"` alone where there are none
abbrev pub text_word : List ℕ → List ℕ
text_word bytes = if length bytes == 0 then codes "\"" else encode_lower bytes

-- the name of a button
unfoldable pub name_in : Named ℕ → ℕ → List ℕ
name_in table mask = unwrap_or (option_map (λ row. row.0.now) (find (λ row. row.1 == mask) table)) []

-- a value of a line as a word
unfoldable pub value_word : Value → List ℕ
value_word (Byte byte) = encode_lower (byte ∷ [])
value_word (Button mask) = name_in buttons mask
value_word (MouseButton mask) = name_in mouse_buttons mask
value_word (Player number) = decimal number
value_word (Pixel at) = decimal at
value_word (Turn steps) = signed_decimal steps
value_word (Seconds seconds) = signed_decimal seconds
value_word (Minutes minutes) = signed_decimal minutes

-- the words of an event's line
abbrev pub event_words : Event → List (List ℕ)
event_words event = (plain_event event).1 ∷ map value_word (plain_event event).2

abbrev pub version_words : Version → List (List (List ℕ))
version_words First = []
version_words Second = (codes "script" ∷ codes "2" ∷ []) ∷ []

abbrev pub clock_values : Clock → List Value
clock_values clock = Seconds clock.seconds ∷ Minutes clock.offset ∷ []

abbrev pub clock_words : Clock → List (List ℕ)
clock_words clock = codes "clock" ∷ map value_word (clock_values clock)

abbrev pub argument_words : List (List ℕ) → List (List (List ℕ))
argument_words [] = []
argument_words (text ∷ texts) = (codes "args" ∷ map text_word (text ∷ texts)) ∷ []

-- the words of all lines
unfoldable pub plain_lines : ScriptView → List (List (List ℕ))
plain_lines script =
    version_words script.version ++ (clock_words script.clock ∷ (argument_words script.arguments ++ map event_words script.events))

-- words with a space between each two, and a newline
abbrev pub line_text : List (List ℕ) → List ℕ
line_text words = join_with_byte 32 words ++ 10 ∷ []

unfoldable pub plain_text : ScriptView → List ℕ
plain_text script = flat_map line_text (plain_lines script)
