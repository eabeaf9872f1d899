-- What a parse of the words gives, as the values of names.
use Rattle.std.proofs.lemmas.Grind.{common_steps}
use Rattle.std.proofs.Common.{◌≡◌, ◌∙◌, ◌&&◌, not, ℕ, Bool, cond, true, false, refl, ap, ap₂, sym, List, [], ◌∷◌, ◌+◌, ◌==◌, map, length, drop, arith}
use Rattle.std.proofs.Common.{Some, None, option_map, nat_lt, count_by, is_some}
use Rattle.std.specs.Prelude.{option_and_then, position}
use Rattle.std.specs.List.{list_any, list_all, position_or_len, find}
use Rattle.std.specs.Str.{bytes_eq}
use Rattle.std.proofs.lemmas.Bool.Decides.{nat_tests}
use Rattle.clap.specs.Words.{App, HasMatchesOf, Text, fault_of, first_value, is_simple, is_simple_and_free, kind_of, matched_of, matches_of, rows_of}
use Rattle.clap.specs.Kinds.{HasKind}
use Rattle.clap.specs.Simple.{is_buildable, is_ready}
use Rattle.clap.specs.Faults.{is_free_app}
use Rattle.clap.specs.Walk.{Rule, is_early_multiple}
use Rattle.clap.specs.declared.error.Error.{Error}
use Rattle.clap.specs.declared.error.kind.ErrorKind.TheVariants.{OutOfMemory}
use Rattle.clap.specs.declared.parser.matches.Found.{Found as Matched}
use Rattle.clap.proofs.WalkLemmas.{find_row, first_value-rows}
use Rattle.uxn_arguments.specs.declared.reading.Found.{Found}
use Rattle.uxn_arguments.specs.Choices.{Choice, is_legal, arguments_of, value_behind, values_in, values_over}
use Rattle.uxn_arguments.specs.Parsing.{choice_argument, found_value, from_words, parser_for}
use Rattle.uxn_arguments.proofs.ArgumentLemmas.{choice_rule, rules_for, contents}
use Rattle.uxn_arguments.proofs.LineLemmas.{built_is, outcome, parsed, shape, values-wanted, values_at}

-- ---- the command is one of which `clap` says what it does

each_passes : (p : Rule → Bool) (rule : Choice → Rule) → ((choice : Choice) → p (rule choice) ≡ true) → (choices : List Choice) → list_all p (map rule choices) ≡ true
each_passes p rule passes [] = refl
each_passes p rule passes (choice ∷ choices) = ap (λ b. b && list_all p (map rule choices)) (passes choice) ∙ each_passes p rule passes choices

none_early : (n : ℕ) (choices : List Choice) → list_any (is_early_multiple n) (map choice_rule choices) ≡ false
none_early n [] = refl
none_early n (choice ∷ choices) = none_early n choices

module _ (choices : List Choice) where
  buildable : is_buildable (parser_for choices) ≡ true
  buildable = ap (λ b. b && true) (each_passes (λ r. r.is_simple) choice_argument (λ c. refl) choices)

  ready : is_ready (shape choices) ≡ true
  ready = ap₂ (λ a b. a && not b) (each_passes (λ r. r.is_simple) choice_rule (λ c. refl) choices)
      (none_early (count_by (λ (r : Rule). is_some r.index) (rules_for choices)) choices)

  simple : is_simple (parser_for choices) ≡ true
  simple = ap₂ (λ a b. a && (b && true)) buildable (ap (λ (a : App). is_ready a.top) (built_is choices) ∙ ready)

  free : is_simple_and_free (parser_for choices) ≡ true
  free = ap₂ (λ a b. a && b) simple
      (ap (λ (a : App). is_free_app a) (built_is choices) ∙ ap (λ b. b && true) (each_passes (λ r. r.is_free) choice_rule (λ c. refl) choices))

-- ---- the value of a name

value-rows : (f : Matched) (id : Text) → from_words (option_and_then (λ entry. entry.source) (matched_of f id)) (first_value f id) ≡ contents (find (λ r. bytes_eq r.id id) (rows_of f))
value-rows f id = grind (arith, common_steps, first_value-rows, find_row)

-- ---- the outcomes

module _ (choices : List Choice) (app : App) (is : app ≡ parser_for choices) (words : List Text) (legal : list_all is_legal words ≡ true) where
  values : option_map values_at (outcome choices (fault_of app words) (matches_of app words)) ≡ values_over choices words
  unfolding values_over
  values = ap (λ a. option_map values_at (outcome choices (fault_of a words) (matches_of a words))) is ∙ ap (option_map values_at) (parsed choices words legal)
      ∙ sym (values-wanted choices (arguments_of choices words None)) ∙ sym (ap (λ b. cond b (option_and_then (values_in choices) (arguments_of choices words None)) None) legal)

  pub read_ok : (found : Found) → HasMatchesOf app words found.matches → (is_simple_and_free app ≡ true → fault_of app words ≡ []) → Some (found_value found) ≡ values_over choices words
  read_ok found has faultless = grind (arith, common_steps, value-rows, simple, free, values)

  pub read_err : (e : Error) → (is_simple_and_free app ≡ true → HasKind (fault_of app words) e) → (kind_of e ≡ OutOfMemory → ⊥) → None ≡ values_over choices words
  read_err e fails other = grind (arith, common_steps, values, free)

pub read_illegal : (choices : List Choice) (words : List Text) → list_all is_legal words ≡ false → None ≡ values_over choices words
unfolding values_over
read_illegal choices words bad = sym (ap (λ b. cond b (option_and_then (values_in choices) (arguments_of choices words None)) None) bad)

-- ---- a value behind `=`

within : {X : Type 0} (p : X → Bool) (xs : List X) → nat_lt (position_or_len p xs) (length xs) ≡ list_any p xs
within p [] = refl
within p (x ∷ xs) = grind (arith, common_steps, within p xs, nat_tests)

pub value_at : (text : Text) → value_behind text ≡ option_map (λ at. drop (at + 1) text) (position (λ byte. byte == 61) text)
value_at text = grind (arith, common_steps, within)

pub list_all-map : {X Y : Type 0} (p : Y → Bool) (f : X → Y) (xs : List X) → list_all (λ x. p (f x)) xs ≡ list_all p (map f xs)
list_all-map p f [] = refl
list_all-map p f (x ∷ xs) = ap (λ b. p (f x) && b) (list_all-map p f xs)
