-- The command of `clap` that reads words by a table of options, and what its matches say.
use Rattle.std.specs.Prelude.{ℕ, Bool, true, List, [], ◌∷◌, Option, Some, None, map, option_and_then, if◌then◌else◌}
use Rattle.std.specs.Borrow.{Bor}
use Rattle.clap.specs.Words.{App, Rule, first_value, found_of, matched_of, new_app, new_rule}
use Rattle.clap.specs.declared.builder.action.ArgAction.TheVariants.{Set, SetTrue}
use Rattle.clap.specs.declared.parser.matches.ValueSource.{ValueSource}
use Rattle.clap.specs.declared.parser.matches.ValueSource.TheVariants.{DefaultValue, CommandLine}
use Rattle.uxn_arguments.specs.declared.reading.Found.{Found}
use Rattle.uxn_arguments.specs.declared.choice.ChoiceKind.{ChoiceKind}
use Rattle.uxn_arguments.specs.Choices.{Choice, choice_of, operand}

-- the options of the rows that the code has
abbrev pub choice_in : Bor (List ℕ) × ChoiceKind → Choice
choice_in row = choice_of row.0.now row.1

abbrev pub table_choices : List (Bor (List ℕ) × ChoiceKind) → List Choice
table_choices rows = map choice_in rows

-- the arguments: the operand, and the options
abbrev pub argument : List ℕ → Option (List ℕ) → Bool → Bool → Rule
argument id long has_value required =
    record (new_rule id) { long = long; action = Some (if has_value then Set else SetTrue); required = required }

abbrev pub operand_argument : Rule
operand_argument = argument operand None true true

abbrev pub choice_argument : Choice → Rule
choice_argument choice = argument choice.name (Some choice.name) choice.has_value choice.is_required

-- the command itself, which has neither help nor a version
abbrev pub parser_of : List Rule → App
parser_of arguments = record (new_app []) {
  top = record (new_app []).top {
    rules = arguments;
    no_binary_name = true;
    disable_help_flag = true;
    disable_version_flag = true;
  };
}

abbrev pub parser_for : List Choice → App
parser_for choices = parser_of (operand_argument ∷ map choice_argument choices)

-- what words gave, and no default
abbrev pub from_words : Option ValueSource → Option (List ℕ) → Option (List ℕ)
from_words None value = None
from_words (Some DefaultValue) value = None
from_words (Some CommandLine) value = value

-- the value of a name among the matches
abbrev pub found_value : Found → List ℕ → Option (List ℕ)
found_value found name =
    let matches = found_of found.matches in
    from_words (option_and_then (λ entry. entry.source) (matched_of matches name)) (first_value matches name)
