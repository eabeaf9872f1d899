-- What a line of commands means (profile), a row for each first word.
use Rattle.std.specs.Prelude.{ℕ, ◌&&◌, nat_lt, if◌then◌else◌, List, [], ◌∷◌, codes, drop, length}
use Rattle.std.specs.Prelude.{Option, Some, None, option_map, Result, Ok, Err}
use Rattle.std.specs.Option.{ok_or}
use Rattle.uxn_limits.specs.declared.limits.TheConstants.{MOST_STEPS, MOST_MOMENTS, MOST_PRINTED}
use Rattle.text_lines.specs.declared.row.Counts.TheVariants.{Exactly}
use Rattle.text_lines.specs.Named.{named}
use Rattle.text_lines.specs.Numbers.{begins_with, number_within}
use Rattle.text_lines.specs.Reading.{Line, made}
use Rattle.text_lines.specs.Rows.{Rows, fault_named, keyword_of, line_by}
use Rattle.tal_words.specs.declared.name.Label.{Label}
use Rattle.tal_words.specs.Digits.{is_short_number, number_of_digits}
use Rattle.tal_words.specs.Labels.{address_named}
use Rattle.uxn_debugger.specs.declared.command.DebugCommand.{DebugCommand}
use Rattle.uxn_debugger.specs.declared.command.DebugCommand.TheVariants.{Break, Delete, Run, Step, Back, Stacks, Mem, PortPage, Here}
use Rattle.uxn_debugger.specs.declared.command.CommandKind.{CommandKind}
use Rattle.uxn_debugger.specs.declared.command.CommandKind.TheVariants.{Unknown, BadValue, NoSuchLabel, Missing, Extra}
use Rattle.uxn_debugger.specs.declared.command_line.Keyword.{Keyword}
use Rattle.uxn_debugger.specs.declared.command_line.Keyword.TheVariants as word

-- a value, or what is wrong with it
abbrev pub CommandVerdict : Type 0 → Type 0
CommandVerdict A = Result A CommandKind

-- an address: four lowercase digits, or `@` and the name of a label
unfoldable pub address_in : List Label → List ℕ → CommandVerdict ℕ
address_in labels word =
    if is_short_number word then Ok (number_of_digits word)
    else if begins_with 64 word && nat_lt 1 (length word) then ok_or (address_named labels (drop 1 word)) NoSuchLabel
    else Err BadValue

-- the first value as an address, and as a count from 1
abbrev pub address_of_values : List Label → List (List ℕ) → CommandVerdict ℕ
address_of_values labels [] = Err BadValue
address_of_values labels (a ∷ more) = address_in labels a

abbrev pub count_of_values : ℕ → List (List ℕ) → CommandVerdict ℕ
count_of_values most [] = Err BadValue
count_of_values most (n ∷ more) = ok_or (number_within 1 most n) BadValue

-- how many bytes of memory from an address on; a label is looked up where both values are of their form and range
abbrev pub memory_command : CommandVerdict ℕ → Option ℕ → CommandVerdict DebugCommand
memory_command address None = Err BadValue
memory_command address (Some count) = made (λ at. Mem at count) address

-- the command that the values behind a first word make, as many as it takes
unfoldable pub command_of : List Label → Keyword → List (List ℕ) → CommandVerdict DebugCommand
command_of labels word.Break (a ∷ more) = made Break (address_in labels a)
command_of labels word.Delete (a ∷ more) = made Delete (address_in labels a)
command_of labels word.Run values = Ok Run
command_of labels word.Step (n ∷ more) = ok_or (option_map Step (number_within 1 MOST_STEPS n)) BadValue
command_of labels word.Back (n ∷ more) = ok_or (option_map Back (number_within 1 MOST_MOMENTS n)) BadValue
command_of labels word.Where values = Ok Here
command_of labels word.Stacks values = Ok Stacks
command_of labels word.Mem (a ∷ n ∷ more) = memory_command (address_in labels a) (number_within 1 MOST_PRINTED n)
command_of labels word.Ports values = Ok PortPage
command_of labels _ values = Err BadValue

-- the lines of commands
abbrev pub command_rows : Rows Keyword
command_rows =
    named (codes "break") (Exactly 1, word.Break) ∷
    named (codes "delete") (Exactly 1, word.Delete) ∷
    named (codes "run") (Exactly 0, word.Run) ∷
    named (codes "step") (Exactly 1, word.Step) ∷
    named (codes "back") (Exactly 1, word.Back) ∷
    named (codes "where") (Exactly 0, word.Where) ∷
    named (codes "stacks") (Exactly 0, word.Stacks) ∷
    named (codes "mem") (Exactly 2, word.Mem) ∷
    named (codes "ports") (Exactly 0, word.Ports) ∷
    []

-- the command that the words of a line give, or what is wrong with them; a line without words or with `#` before its
-- first gives none
unfoldable pub command_line_of : List Label → List (List ℕ) → Line DebugCommand CommandKind
command_line_of labels words = line_by (fault_named Unknown Missing Extra) (command_of labels) (keyword_of command_rows words)
