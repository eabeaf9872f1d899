-- What it is to take a line from a source.
use Rattle.std.specs.Prelude.{◌≡◌, ◌≢◌, ℕ, ◌<◌, Bool, true, false, List, [], ◌∷◌, ◌++◌, length}
use Rattle.std.specs.List.{All}
use Rattle.std.specs.Io.KnownBytes.{Consumes, IsAtEnd}
use Rattle.uxn_io_traits.specs.Faults.{Counted}
use Rattle.line_source.specs.Source.{SourceState, Took}
use Rattle.line_source.specs.declared.lines.Ending.{Ending}
use Rattle.line_source.specs.declared.lines.Ending.TheVariants.{Newline, End}
use Rattle.line_source.specs.declared.lines.LineStop.{LineStop}
use Rattle.line_source.specs.declared.lines.LineStop.TheVariants.{Failed, Long, NoMemory}

-- none of these bytes is a newline
abbrev pub IsOneLine : List ℕ → Type 0
IsOneLine bytes = All (λ byte. byte ≢ 10) bytes

-- a line, and the newline behind it
abbrev pub ended_line : List ℕ → Ending → List ℕ
ended_line line Newline = line ++ 10 ∷ []
ended_line line End = line

-- a line was taken, with the newline behind it, or all that was left
pub record TookLine (line : List ℕ) (ending : Ending) (before now : SourceState) : Type 0 where
  pub took : Took (ended_line line ending) before now
  pub plain : IsOneLine line
  pub end : ending ≡ End → IsAtEnd now.left

-- bytes of a line that is not whole were taken; only a failed source counts a fault
pub record StoppedIn (line : List ℕ) (failed : Bool) (before now : SourceState) : Type 0 where
  pub left : Consumes before.left now.left line
  pub counted : Counted before.tally now.tally failed
  pub plain : IsOneLine line

-- a long line has more bytes than it may have
abbrev pub StopsLine : LineStop → ℕ → SourceState → SourceState → Type 0
StopsLine Failed most before now = (line : List ℕ) × StoppedIn line true before now
StopsLine Long most before now = (line : List ℕ) × StoppedIn line false before now × (most < length line)
StopsLine NoMemory most before now = Counted before.tally now.tally false
