-- What a line of a setup gives (profile), a row for each first word.
use Rattle.std.specs.Prelude.{ℕ, List, [], ◌∷◌, codes, Option, None, option_map}
use Rattle.std.specs.Option.{ok_or, option_zip}
use Rattle.std.specs.Result.{result_ok}
use Rattle.uxn_limits.specs.declared.limits.TheConstants.{MOST_MACHINES, TURNS_OF_LINE, GREATEST_BUDGET}
use Rattle.text_lines.specs.Named.{named}
use Rattle.text_lines.specs.Numbers.{number_within}
use Rattle.text_lines.specs.Reading.{Line}
use Rattle.text_lines.specs.Rows.{Rows, fault_named, keyword_of, line_by}
use Rattle.uxn_io_traits.specs.PathText.{path_of}
use Rattle.text_lines.specs.declared.row.Counts.TheVariants.{Exactly}
use Rattle.text_lines.specs.declared.setup_word.Keyword.{Keyword}
use Rattle.text_lines.specs.declared.setup_word.Keyword.TheVariants as word
use Rattle.text_lines.specs.declared.setup.SetupKind.{SetupKind}
use Rattle.text_lines.specs.declared.setup.SetupKind.TheVariants.{Unknown, Missing, Extra, BadValue}
use Rattle.text_lines.specs.declared.setup.Turns.{Turns}
use Rattle.text_lines.specs.declared.setup_line.SetupLine.{SetupLine}
use Rattle.text_lines.specs.declared.setup_line.SetupLine.TheVariants.{Machine, Script, Budget, Turn}

-- so many turns of a machine, where both are numbers of their ranges
abbrev pub turns_of : List ℕ → List ℕ → Option Turns
turns_of m n = option_map (λ both. record { machine = both.0; count = both.1 })
    (option_zip (number_within 1 MOST_MACHINES m) (number_within 1 TURNS_OF_LINE n))

-- what the values behind a first word give, as many as it takes; nothing where one is not of its form or range
unfoldable pub setup_of_values : Keyword → List (List ℕ) → Option SetupLine
setup_of_values word.Machine (path ∷ more) = option_map Machine (result_ok (path_of path))
setup_of_values word.Script (path ∷ more) = option_map Script (result_ok (path_of path))
setup_of_values word.Budget (n ∷ more) = option_map Budget (number_within 1 GREATEST_BUDGET n)
setup_of_values word.Turn (m ∷ n ∷ more) = option_map Turn (turns_of m n)
setup_of_values _ values = None

-- the lines of a setup
abbrev pub setup_rows : Rows Keyword
setup_rows =
    named (codes "machine") (Exactly 1, word.Machine) ∷
    named (codes "script") (Exactly 1, word.Script) ∷
    named (codes "budget") (Exactly 1, word.Budget) ∷
    named (codes "turn") (Exactly 2, word.Turn) ∷
    []

-- what the words of a line give, or what is wrong with them; a line without words or with `#` before its first gives nothing
unfoldable pub setup_line_of : List (List ℕ) → Line SetupLine SetupKind
setup_line_of words =
    line_by (fault_named Unknown Missing Extra) (λ keyword values. ok_or (setup_of_values keyword values) BadValue) (keyword_of setup_rows words)
