-- The rules of a command with one operand and the options of a table, and what one use of each makes.
use Rattle.std.proofs.Common.{arith, ◌≡◌, ◌∙◌, ◌&&◌, ◌||◌, ℕ, Bool, cond, true, false, not, refl, sym, ap, ap₂, List, [], ◌∷◌, ◌++◌, map, Option}
use Rattle.std.proofs.Common.{Some, None, append-nil, codes, is_some, option_map}
use Rattle.std.specs.List.{find, fold}
use Rattle.std.specs.Option.{option_map_or}
use Rattle.std.specs.Str.{bytes_eq}
use Rattle.std.proofs.lemmas.List.{map-append}
use Rattle.std.proofs.lemmas.Slice.Eq.{bytes_eq-Decides}
use Rattle.clap.proofs.WalkLemmas.{find-map}
use Rattle.clap.specs.Walk.{Row, has_long, Rule, Text, arg_by_id, arg_by_long, at_row, default_rows, has_row, more_values, used, with_default}
use Rattle.clap.specs.Simple.{filled, filled_from, new_rule, with_index}
use Rattle.clap.specs.Takes as takes
use Rattle.clap.specs.Kinds.{Kinds}
use Rattle.clap.specs.Faults.{defaults_fault, use_fault, default_fault}
use Rattle.clap.specs.Facts.{explicit_source}
use Rattle.clap.specs.declared.builder.action.ArgAction.TheVariants.{Set, SetTrue}
use Rattle.clap.specs.declared.builder.value_parser.ValueParser.TheVariants as vp
use Rattle.clap.specs.declared.builder.value_parser.Reading.TheVariants.{AsWritten}
use Rattle.clap.specs.declared.parser.matches.ValueSource.TheVariants.{DefaultValue, CommandLine}
use Rattle.clap.specs.declared.error.kind.ErrorKind.TheVariants as kind
use Rattle.std.specs.Prelude.{option_and_then, slice_get}
use Rattle.uxn_arguments.specs.Parsing.{argument, choice_argument, from_words, operand_argument}
use Rattle.uxn_arguments.specs.Choices.{Choice, GivenArgument, choice_named, operand, given, is_given, argument_value}
use Rattle.std.proofs.lemmas.Grind.{common_steps}

-- ---- rules

-- an argument as it is built
abbrev pub ruled : Text → Option Text → Option ℕ → Bool → Bool → Rule
ruled id long index has_value required = record (new_rule id) {
  long = long;
  index = index;
  action = Some (cond has_value Set SetTrue);
  range = Some (record { start_inclusive = cond has_value 1 0; end_inclusive = cond has_value 1 0 });
  defaults = cond has_value [] (codes "false" ∷ []);
  missing = cond has_value [] (codes "true" ∷ []);
  parser = Some (cond has_value vp.String vp.Bool);
  required = required;
}

abbrev pub operand_rule : Rule
operand_rule = ruled operand None (Some 1) true true

abbrev pub choice_rule : Choice → Rule
choice_rule choice = ruled choice.name (Some choice.name) None choice.has_value choice.is_required

abbrev pub rules_for : List Choice → List Rule
rules_for choices = operand_rule ∷ map choice_rule choices

filled_choice : (i : ℕ) (name : Text) (has_value required : Bool)
    → with_index i (filled (argument name (Some name) has_value required)) ≡ ruled name (Some name) None has_value required
filled_choice i name has_value required = grind (arith, common_steps)

filled_choices : (i : ℕ) (choices : List Choice) → filled_from i (map choice_argument choices) ≡ map choice_rule choices
filled_choices i [] = refl
filled_choices i (choice ∷ choices) =
    ap₂ (λ r rs. r ∷ rs) (filled_choice i choice.name choice.has_value choice.is_required) (filled_choices i choices)

pub filled_rules : (choices : List Choice) → filled_from 1 (operand_argument ∷ map choice_argument choices) ≡ rules_for choices
filled_rules choices = ap (λ rs. operand_rule ∷ rs) (filled_choices 2 choices)

-- ---- look-ups

pub or_none : (b : Bool) → (b || false) ≡ b
or_none b = grind (arith, common_steps)

pub by_long : (choices : List Choice) (name : Text) → arg_by_long (rules_for choices) name ≡ option_map choice_rule (choice_named choices name)
by_long choices name = sym (find-map (λ a. not (is_some a.index) && has_long a name) choice_rule choices)
    ∙ λ i. option_map choice_rule (find (λ choice. or_none (bytes_eq choice.name name) i) choices)

found_passes : {X : Type 0} (p : X → Bool) (xs : List X) (x : X) → find p xs ≡ Some x → p x ≡ true
found_passes p [] x e = grind (arith, common_steps)
found_passes p (y ∷ ys) x e = grind (arith, common_steps, found_passes p ys x)

pub same-sym : (a b : Text) → bytes_eq a b ≡ bytes_eq b a
same-sym a b = grind (arith, common_steps, bytes_eq-Decides a b, bytes_eq-Decides b a)

-- an option that is named is found by its id, and is not the operand
pub record IsKnown (choices : List Choice) (name : Text) (has_value required : Bool) : Type 0 where
  pub found : arg_by_id (rules_for choices) name ≡ Some (ruled name (Some name) None has_value required)
  pub other : bytes_eq name operand ≡ false

pub known : (choices : List Choice) (name : Text) (choice : Choice) → bytes_eq name operand ≡ false → choice_named choices name ≡ Some choice
    → IsKnown choices choice.name choice.has_value choice.is_required
known choices name choice named e =
    let same : choice.name ≡ name = (bytes_eq-Decides choice.name name).0 (found_passes (λ c. bytes_eq c.name name) choices choice e) in
    let other : bytes_eq choice.name operand ≡ false = ap (λ n. bytes_eq n operand) same ∙ named in
    record {
      found = ap (λ b. cond b (Some operand_rule) (arg_by_id (map choice_rule choices) choice.name)) (same-sym operand choice.name ∙ other)
          ∙ sym (find-map (λ a. bytes_eq a.id choice.name) choice_rule choices)
          ∙ ap (option_map choice_rule) (ap (choice_named choices) same ∙ e);
      other = other;
    }

-- ---- rows

abbrev pub row : GivenArgument → Row
row item = record { id = item.name; values = item.value ∷ []; count = None; source = Some CommandLine; reading = AsWritten }

pub has_row-items : (id : Text) (items : List GivenArgument) → has_row id (map row items) ≡ is_given id items
has_row-items id [] = refl
has_row-items id (item ∷ items) = ap (λ b. bytes_eq item.name id || b) (has_row-items id items)

pub absent : (id : Text) (change : Row → List Row) (missing rows : List Row) → has_row id rows ≡ false → at_row id change missing rows ≡ rows ++ missing
absent id change missing [] e = refl
absent id change missing (r ∷ rows) e = grind (arith, common_steps, absent id change missing rows)

-- one more use, which is refused where the name is not new
abbrev pub conflict : Bool → Kinds
conflict is_new = cond is_new [] (kind.ArgumentConflict ∷ [])

abbrev pub values_for : Bool → Text → List Text
values_for has_value value = cond has_value (value ∷ []) []

-- a switch has the value `true`
abbrev pub Fits : Bool → Text → Type 0
Fits has_value value = has_value ≡ false → value ≡ codes "true"

pub use_faults : (id : Text) (long : Option Text) (index : Option ℕ) (has_value required : Bool) (value : Text) (items : List GivenArgument)
    → use_fault false (ruled id long index has_value required) (values_for has_value value) (map row items) ≡ conflict (not (is_given id items))
use_faults id long index has_value required value items = grind (arith, common_steps, has_row-items)

appended : (id : Text) (change remove : Row → List Row) (value : Text) (items : List GivenArgument) → is_given id items ≡ false
    → at_row id change (row (given id value) ∷ []) (at_row id remove [] (map row items)) ≡ map row (items ++ given id value ∷ [])
appended id change remove value items fresh =
    let none = has_row-items id items ∙ fresh in
    let kept : at_row id remove [] (map row items) ≡ map row items = absent id remove [] (map row items) none ∙ append-nil (map row items) in
    ap (at_row id change (row (given id value) ∷ [])) kept ∙ absent id change (row (given id value) ∷ []) (map row items) none
    ∙ sym (map-append row items (given id value ∷ []))

pub use_rows : (id : Text) (long : Option Text) (index : Option ℕ) (has_value required : Bool) (value : Text) (items : List GivenArgument) → Fits has_value value
    → is_given id items ≡ false → used (ruled id long index has_value required) (values_for has_value value) (map row items) ≡ map row (items ++ given id value ∷ [])
use_rows id long index true required value items fits fresh = appended id (more_values CommandLine (value ∷ [])) (λ _. []) value items fresh
use_rows id long index false required value items fits fresh =
    rw (fits refl) (appended id (more_values CommandLine (codes "true" ∷ [])) (λ _. []) (codes "true") items fresh)

-- ---- defaults

abbrev pub default_row : Text → Row
default_row id = record { id = id; values = codes "false" ∷ []; count = None; source = Some DefaultValue; reading = AsWritten }

abbrev with_choice : List Row → Choice → List Row
with_choice rows choice = with_default rows (choice_rule choice)

-- the rows of the items, and the defaults of the switches that are not given
abbrev pub with_defaults : List Choice → List Row → List Row
with_defaults choices rows = fold with_default rows (rules_for choices)

found_pushed : {Z : Type 0} (read : Option Row → Z) (p : Row → Bool) (rows : List Row) (r : Row) → read (cond (p r) (Some r) None) ≡ read None
    → read (find p (rows ++ r ∷ [])) ≡ read (find p rows)
found_pushed read p [] r e = e
found_pushed read p (x ∷ rows) r e = grind (arith, common_steps, found_pushed read p rows r e)

-- a reading of the row of an id, of which a default is nothing
module _ {Z : Type 0} (read : Option Row → Z) (same : (name : Text) → read (Some (default_row name)) ≡ read None) (id : Text) where
  abbrev found : List Row → Z
  found rows = read (find (λ r. bytes_eq r.id id) rows)

  default_unobserved : (name : Text) (long : Option Text) (index : Option ℕ) (has_value required : Bool) (rows : List Row)
      → found (with_default rows (ruled name long index has_value required)) ≡ found rows
  default_unobserved name long index true required rows = elim (has_row name rows) as (λ b. found (cond b rows rows) ≡ found rows) [ true ↦ refl | false ↦ refl ]
  default_unobserved name long index false required rows =
      elim (has_row name rows) as (λ b. has_row name rows ≡ b
      → found (cond b rows (default_rows name AsWritten (codes "false" ∷ []) rows)) ≡ found rows) [
        | true ↦ λ h. refl
        | false ↦ λ h. ap found (absent name (more_values DefaultValue (codes "false" ∷ [])) (default_row name ∷ []) rows h)
            ∙ found_pushed read (λ r. bytes_eq r.id id) rows (default_row name)
            (elim (bytes_eq name id) as (λ b. read (cond b (Some (default_row name)) None) ≡ read None) [ true ↦ same name | false ↦ refl ])
      ] refl

  choices_unobserved : (choices : List Choice) (rows : List Row) → found (fold with_default rows (map choice_rule choices)) ≡ found rows
  choices_unobserved [] rows = refl
  choices_unobserved (choice ∷ choices) rows =
      choices_unobserved choices (with_choice rows choice) ∙ default_unobserved choice.name (Some choice.name) None choice.has_value choice.is_required rows

  pub unobserved : (choices : List Choice) (rows : List Row) → found (with_defaults choices rows) ≡ found rows
  unobserved choices rows = choices_unobserved choices (with_default rows operand_rule) ∙ default_unobserved operand None (Some 1) true true rows

default_passes : (id : Text) (long : Option Text) (index : Option ℕ) (has_value required : Bool) (rows : List Row) → default_fault rows (ruled id long index has_value required) ≡ []
default_passes id long index has_value required rows = grind (arith, common_steps)

choices_pass : (choices : List Choice) (rows : List Row) → defaults_fault rows (map choice_rule choices) ≡ []
unfolding defaults_fault
choices_pass [] rows = refl
choices_pass (choice ∷ choices) rows = grind (arith, common_steps, default_passes, choices_pass choices (with_choice rows choice))

-- no default is refused
pub defaults_pass : (choices : List Choice) (rows : List Row) → defaults_fault rows (rules_for choices) ≡ []
unfolding defaults_fault
defaults_pass choices rows = grind (arith, common_steps, default_passes, choices_pass)

-- ---- what the rows say of the items

abbrev pub explicit : Option Row → Bool
explicit found = option_map_or (λ r. explicit_source r.source) found false

items_given : (id : Text) (items : List GivenArgument) → takes.is_given id (map row items) ≡ is_given id items
items_given id [] = refl
items_given id (item ∷ items) = grind (arith, common_steps, items_given id items)

pub rows_given : (choices : List Choice) (id : Text) (items : List GivenArgument) → takes.is_given id (with_defaults choices (map row items)) ≡ is_given id items
rows_given choices id items = unobserved explicit (λ name. refl) id choices (map row items) ∙ items_given id items

-- the value that the words gave, of a row
abbrev pub contents : Option Row → Option Text
contents found = from_words (option_and_then (λ r. r.source) found) (option_and_then (λ r. slice_get r.values 0) found)

items_known : (id : Text) (items : List GivenArgument) → contents (find (λ r. bytes_eq r.id id) (map row items)) ≡ argument_value id items
items_known id [] = refl
items_known id (item ∷ items) = grind (arith, common_steps, items_known id items)

pub rows_known : (choices : List Choice) (id : Text) (items : List GivenArgument) → contents (find (λ r. bytes_eq r.id id) (with_defaults choices (map row items))) ≡ argument_value id items
rows_known choices id items = unobserved contents (λ name. refl) id choices (map row items) ∙ items_known id items
