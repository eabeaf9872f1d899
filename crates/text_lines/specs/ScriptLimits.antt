-- What holds of every script that was read (profile).
use Rattle.std.specs.Prelude.{ℕ, ◌+◌, ◌<◌, ◌≤◌, ◌≡◌, ◌==◌, Bool, true, pos, neg_ℤ, ◌≤ℤ◌}
use Rattle.std.specs.Prelude.{[], ◌∷◌, length, List}
use Rattle.std.specs.List.{All, AllByRecursion, list_any, sum_by}
use Rattle.uxn_limits.specs.declared.limits.TheConstants.{TEXT_LIMIT, MOST_EVENTS, LAST_SECOND, LAST_OFFSET}
use Rattle.text_lines.specs.declared.script.Clock.{Clock}
use Rattle.text_lines.specs.declared.script.Event.{Event}
use Rattle.text_lines.specs.declared.script.Version.{Version}
use Rattle.text_lines.specs.declared.script.Version.TheVariants.{First, Second}
use Rattle.text_lines.specs.declared.values.Value.{Value}
use Rattle.text_lines.specs.declared.values.Value.TheVariants.{Byte, Button, MouseButton, Player, Pixel, Turn, Seconds, Minutes}
use Rattle.text_lines.specs.PlainEvents.{plain_event}
use Rattle.text_lines.specs.Scripts.{ScriptView}

-- a mask of one button
abbrev pub is_bit : ℕ → Bool
is_bit mask = list_any (λ bit. bit == mask) (1 ∷ 2 ∷ 4 ∷ 8 ∷ 16 ∷ 32 ∷ 64 ∷ 128 ∷ [])

abbrev pub IsBit : ℕ → Type 0
IsBit mask = is_bit mask ≡ true

-- the range of each value of a line
abbrev pub IsValue : Value → Type 0
IsValue (Byte byte) = byte < 256
IsValue (Button mask) = IsBit mask
IsValue (MouseButton mask) = IsBit mask
IsValue (Player number) = (2 ≤ number) × (number ≤ 4)
IsValue (Pixel at) = at < 65536
IsValue (Turn steps) = (neg_ℤ (pos 32768) ≤ℤ steps) × (steps ≤ℤ pos 32767)
IsValue (Seconds seconds) = (pos 0 ≤ℤ seconds) × (seconds ≤ℤ pos LAST_SECOND)
IsValue (Minutes minutes) = (neg_ℤ (pos LAST_OFFSET) ≤ℤ minutes) × (minutes ≤ℤ pos LAST_OFFSET)

abbrev pub AreValues : List Value → Type 0
AreValues values = AllByRecursion IsValue values

-- it is version 2, which alone has other players and the comparison of ports
abbrev pub IsSecond : Version → Type 0
IsSecond First = ⊥
IsSecond Second = Unit {0}

abbrev pub IsPlayer : Version → ℕ → Type 0
IsPlayer number player = IsSecond number × (2 ≤ player) × (player ≤ 4)

-- what this version is the first to have, that one has too
abbrev pub HasFrom : Version → Version → Type 0
HasFrom First number = Unit {0}
HasFrom Second number = IsSecond number

-- an event that a line of this version gives
pub record IsEvent (number : Version) (event : Event) : Type 0 where
  pub within : AreValues (plain_event event).2
  pub belongs : HasFrom (plain_event event).0 number

-- seconds and minutes of a clock
pub record IsTime (time : Clock) : Type 0 where
  pub seconds_from : pos 0 ≤ℤ time.seconds
  pub seconds_to : time.seconds ≤ℤ pos LAST_SECOND
  pub offset_from : neg_ℤ (pos LAST_OFFSET) ≤ℤ time.offset
  pub offset_to : time.offset ≤ℤ pos LAST_OFFSET

-- arguments of bytes, with one more for each, and no more than this in all
abbrev pub AreTexts : ℕ → List (List ℕ) → Type 0
AreTexts most texts = (sum_by (λ text. length text + 1) texts ≤ most) × All (All (λ byte. byte < 256)) texts

-- the limits of scripts
pub record IsScript (script : ScriptView) : Type 0 where
  pub time : IsTime script.clock
  pub events_few : length script.events ≤ MOST_EVENTS
  pub events_given : All (IsEvent script.version) script.events
  pub arguments : AreTexts TEXT_LIMIT script.arguments
