-- What the words of a command mean that has one operand, and options by a table (profile).
use Rattle.std.specs.Prelude.{ℕ, Bool, true, false, not, nat_lt, ◌==◌, ◌&&◌, ◌||◌, List, []}
use Rattle.std.specs.Prelude.{◌∷◌, codes, length, take, drop, Option, Some, None, option_map, option_and_then, find}
use Rattle.std.specs.Prelude.{if◌then◌else◌}
use Rattle.std.specs.List.{list_all, list_any, before_first, after_first}
use Rattle.std.specs.Option.{option_map_or}
use Rattle.std.specs.Str.{bytes_eq}
use Rattle.uxn_arguments.specs.declared.choice.ChoiceKind.{ChoiceKind}
use Rattle.uxn_arguments.specs.declared.choice.ChoiceKind.TheVariants.{Switch, Optional, Required}

-- ---- tables

-- an option: its name, whether it has a value or is a switch, and whether it may not be missing
pub record Choice : Type 0 where
  pub name : List ℕ
  pub has_value : Bool
  pub is_required : Bool

abbrev pub choice_of : List ℕ → ChoiceKind → Choice
choice_of name Switch = record { name = name; has_value = false; is_required = false }
choice_of name Optional = record { name = name; has_value = true; is_required = false }
choice_of name Required = record { name = name; has_value = true; is_required = true }

abbrev pub choice_named : List Choice → List ℕ → Option Choice
choice_named choices name = find (λ choice. bytes_eq choice.name name) choices

-- the operand stands under the empty name, which no word gives an option
abbrev pub operand : List ℕ
operand = []

-- ---- words

-- a text that is not empty and does not begin with this byte
abbrev pub begins_without : ℕ → List ℕ → Bool
begins_without byte [] = false
begins_without byte (first ∷ rest) = not (first == byte)

-- a word that is an operand or the value of an option: it does not begin with `-` (45)
abbrev pub is_plain : List ℕ → Bool
is_plain word = begins_without 45 word

-- the text behind `--`, where there is some
abbrev pub option_text : List ℕ → Option (List ℕ)
option_text word = if nat_lt 2 (length word) && bytes_eq (take 2 word) (codes "--") then Some (drop 2 word) else None

-- the text behind `--` as the name, and as the value where there is a `=` (61)
abbrev pub name_before : List ℕ → List ℕ
name_before text = before_first (λ byte. byte == 61) text

abbrev pub value_behind : List ℕ → Option (List ℕ)
value_behind text = if list_any (λ byte. byte == 61) text then Some (after_first (λ byte. byte == 61) text) else None

-- the text has a name, and no value or a plain one
abbrev pub is_legal_text : List ℕ → Bool
is_legal_text text = begins_without 61 text && option_map_or is_plain (value_behind text) true

-- a word that may stand on a line: a plain one, `--name`, or `--name=value` with a plain value
abbrev pub is_legal : List ℕ → Bool
is_legal word = is_plain word || option_map_or is_legal_text (option_text word) false

-- ---- items

-- what a line gives: its operand, or an option by its name; a switch has the value `true`
pub record GivenArgument : Type 0 where
  pub name : List ℕ
  pub value : List ℕ

abbrev pub given : List ℕ → List ℕ → GivenArgument
given name value = record { name = name; value = value }

-- what a legal word gives: an item; the option whose value is the next word; or nothing that the table knows
pub data WalkStep : Type 0 where
  gives : GivenArgument → WalkStep
  awaits : List ℕ → WalkStep
  refuses : WalkStep

-- `--name` and `--name=value`, of an option that has a value, and of a switch
abbrev pub choice_step : Option Choice → Option (List ℕ) → WalkStep
choice_step None value = refuses
choice_step (Some choice) None = if choice.has_value then awaits choice.name else gives (given choice.name (codes "true"))
choice_step (Some choice) (Some value) = if choice.has_value then gives (given choice.name value) else refuses

abbrev pub option_step : List Choice → List ℕ → WalkStep
option_step choices text = choice_step (choice_named choices (name_before text)) (value_behind text)

-- a word, where an option may await it as its value
abbrev pub word_step : List Choice → Option (List ℕ) → List ℕ → WalkStep
word_step choices (Some name) word = if is_plain word then gives (given name word) else refuses
word_step choices None word = if is_plain word then gives (given operand word) else option_map_or (option_step choices) (option_text word) refuses

abbrev pub follow : WalkStep → (Option (List ℕ) → Option (List GivenArgument)) → Option (List GivenArgument)
follow (gives item) next = option_map (λ items. item ∷ items) (next None)
follow (awaits name) next = next (Some name)
follow refuses next = None

-- the items of legal words; an option may await the first word
unfoldable pub arguments_of : List Choice → List (List ℕ) → Option (List ℕ) → Option (List GivenArgument)
arguments_of choices [] None = Some []
arguments_of choices [] (Some name) = None
arguments_of choices (word ∷ words) awaited = follow (word_step choices awaited word) (arguments_of choices words)

-- ---- lines

-- an item of this name is among them
abbrev pub is_given : List ℕ → List GivenArgument → Bool
is_given name items = list_any (λ item. bytes_eq item.name name) items

-- the value of the item of this name
abbrev pub argument_value : List ℕ → List GivenArgument → Option (List ℕ)
argument_value name items = option_map (λ item. item.value) (find (λ item. bytes_eq item.name name) items)

-- no two items have one name
abbrev pub each_once : List GivenArgument → Bool
each_once [] = true
each_once (item ∷ items) = not (is_given item.name items) && each_once items

-- the operand, or an option that may not be missing, is missing
abbrev pub lacks_some : List Choice → List GivenArgument → Bool
lacks_some choices items =
    not (is_given operand items) || list_any (λ choice. choice.is_required && not (is_given choice.name items)) choices

-- the value of each name, where a line is whole: nothing is given twice, and nothing that may not be missing is missing
abbrev pub values_in : List Choice → List GivenArgument → Option (List ℕ → Option (List ℕ))
values_in choices items = if each_once items && not (lacks_some choices items) then Some (λ name. argument_value name items) else None

-- the value that a line gives each name: all its words are legal, they give items, and these are whole
unfoldable pub values_over : List Choice → List (List ℕ) → Option (List ℕ → Option (List ℕ))
values_over choices words = if list_all is_legal words then option_and_then (values_in choices) (arguments_of choices words None) else None
