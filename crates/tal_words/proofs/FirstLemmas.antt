-- That the first fault is the first.
use Rattle.std.proofs.Common.{◌≡◌, ◌≤◌, ℕ, Bool, true, false, List, [], ◌∷◌, ◌++◌, Option, Some, None, refl, ap, arith, append-nil, append_assoc, map, subst, sym}
use Rattle.std.proofs.lemmas.Bool.{and_from, and_parts, ltb-true}
use Rattle.std.proofs.lemmas.Grind.{common_steps}
use Rattle.std.specs.List.{AllByRecursion, flat_map, list_all}
use Rattle.std.specs.Prelude.{MatchOption, nat_lt, slice_get}
use Rattle.std.specs.Option.{option_map, option_or}
use Rattle.tal_words.specs.declared.fault.Fault.{Fault}
use Rattle.tal_words.specs.declared.fault.FaultKind.{FaultKind}
use Rattle.tal_words.specs.declared.fault.FaultKind.TheVariants.{OpenComment, LongWord, StrayParen}
use Rattle.tal_words.specs.Faults.{Validated, fault_at, phase_fault, when}
use Rattle.tal_words.specs.FirstFault.{NoneFaulty, IsFirstFault, IsFirst, are_in_order, kind_number}

pub no_kind : (kinds : List FaultKind) → slice_get kinds 0 ≡ None → kinds ≡ []
no_kind [] none = refl
no_kind (kind ∷ kinds) none = cc

-- the first of kinds in order has the least number
above_all : (number : ℕ) (kinds : List FaultKind) → list_all (λ kind. nat_lt number (kind_number kind)) kinds ≡ true
    → AllByRecursion (λ kind. number ≤ kind_number kind) kinds
above_all number [] all = tt
above_all number (kind ∷ kinds) all = (let parts = and_parts (nat_lt number (kind_number kind)) _ all in (omega (arith, ltb-true number (kind_number kind) parts.0), above_all number kinds parts.1))

least_of : (kinds : List FaultKind) (first : FaultKind) → slice_get kinds 0 ≡ Some first → are_in_order kinds ≡ true
    → AllByRecursion (λ kind. kind_number first ≤ kind_number kind) kinds
least_of [] first some ordered = tt
least_of (kind ∷ kinds) first some ordered =
    let same : first ≡ kind = cc some in
    subst (λ least. AllByRecursion (λ other. kind_number least ≤ kind_number other) (kind ∷ kinds)) (sym same)
    (omega arith, above_all (kind_number kind) kinds (and_parts _ _ ordered).0)

first_step : (word : Validated) (words : List Validated) (kind : Option FaultKind) → slice_get word.kinds 0 ≡ kind → (found : Option Fault)
    → MatchOption found (NoneFaulty words) (IsFirstFault words)
    → MatchOption (option_or (option_map (fault_at word.origin) kind) found) (NoneFaulty (word ∷ words)) (IsFirstFault (word ∷ words))
first_step word words None none None rest = (no_kind word.kinds none, rest)
first_step word words None none (Some fault) rest = record {
  prefix = word ∷ rest.prefix;
  word = rest.word;
  back = rest.back;
  parts = ap (λ others. word ∷ others) rest.parts;
  faultless = (no_kind word.kinds none, rest.faultless);
  reported = rest.reported;
  first_kind = rest.first_kind;
  least_kind = rest.least_kind;
}
first_step word words (Some kind) some found rest = record {
  prefix = [];
  word = word;
  back = words;
  parts = refl;
  faultless = tt;
  reported = refl;
  first_kind = some;
  least_kind = least_of word.kinds kind some;
}

pub first_is : (words : List Validated) → IsFirst words
first_is [] = tt
first_is (word ∷ words) = first_step word words (slice_get word.kinds 0) refl (phase_fault words) (first_is words)

-- what tests leave of kinds in order is in order
left_above : (number : ℕ) (tests : List (Bool × FaultKind)) → list_all (λ kind. nat_lt number (kind_number kind)) (map (λ test. test.1) tests) ≡ true
    → list_all (λ kind. nat_lt number (kind_number kind)) (flat_map (λ test. when test.0 test.1) tests) ≡ true
left_above number [] all = refl
left_above number ((true, kind) ∷ tests) all = (let parts = and_parts (nat_lt number (kind_number kind)) _ all in and_from _ _ parts.0 (left_above number tests parts.1))
left_above number ((false, kind) ∷ tests) all = left_above number tests (and_parts _ _ all).1

pub left_in_order : (tests : List (Bool × FaultKind)) → are_in_order (map (λ test. test.1) tests) ≡ true
    → are_in_order (flat_map (λ test. when test.0 test.1) tests) ≡ true
left_in_order [] ordered = refl
left_in_order ((true, kind) ∷ tests) ordered = grind (arith, common_steps, left_above (kind_number kind) tests, left_in_order tests)
left_in_order ((false, kind) ∷ tests) ordered = left_in_order tests (and_parts _ _ ordered).1

-- of two, three and four kinds
module _ (a b c d : Bool) (p q r s : FaultKind) where
  pub two_in_order : are_in_order (p ∷ q ∷ []) ≡ true → are_in_order (when a p ++ when b q) ≡ true
  two_in_order ordered = rw (← append-nil (when b q)) (left_in_order ((a, p) ∷ (b, q) ∷ []) ordered)

  pub three_in_order : are_in_order (p ∷ q ∷ r ∷ []) ≡ true → are_in_order (when a p ++ when b q ++ when c r) ≡ true
  three_in_order ordered =
      rw (append_assoc (when a p) (when b q) (when c r), ← append-nil (when c r)) (left_in_order ((a, p) ∷ (b, q) ∷ (c, r) ∷ []) ordered)

  pub four_in_order : are_in_order (p ∷ q ∷ r ∷ s ∷ []) ≡ true → are_in_order (when a p ++ when b q ++ when c r ++ when d s) ≡ true
  four_in_order ordered =
      rw (
        append_assoc (when a p ++ when b q) (when c r) (when d s),
        append_assoc (when a p) (when b q) (when c r ++ when d s),
        ← append-nil (when d s),
      ) (left_in_order ((a, p) ∷ (b, q) ∷ (c, r) ∷ (d, s) ∷ []) ordered)

pub token_in_order : (opens is_long strays : Bool)
    → are_in_order (when opens OpenComment ++ when is_long LongWord ++ when strays StrayParen) ≡ true
token_in_order opens is_long strays = three_in_order opens is_long strays true OpenComment LongWord StrayParen OpenComment refl
