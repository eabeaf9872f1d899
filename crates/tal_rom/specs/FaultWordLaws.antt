-- Laws of first faults: the first fault of a source is at one of its words.
use Rattle.std.proofs.Common.{◌≡◌, ℕ, zero, suc, ◌+◌, List, [], ◌∷◌, ◌++◌, refl, Option, Some, None, Result, Ok, Err, arith}
use Rattle.std.specs.Prelude.{IfSome, unwrap_or, slice_get}
use Rattle.std.specs.List.{flat_map, AllByRecursion}
use Rattle.std.specs.Option.{option_map, option_or}
use Rattle.tal_words.specs.declared.span.Word.{Word}
use Rattle.tal_words.specs.declared.span.Expanded.{Expanded}
use Rattle.tal_words.specs.declared.fault.Fault.{Fault}
use Rattle.tal_words.specs.declared.fault.FaultKind.{FaultKind}
use Rattle.tal_words.specs.declared.form.Form.{Form}
use Rattle.tal_words.specs.Comments.{words_of, word_fault}
use Rattle.tal_words.specs.Faults.{Validated, phase_fault, fault_at}
use Rattle.tal_words.specs.Order.{each, collected}
use Rattle.tal_words.specs.Source.{word_text, expanded_text}
use Rattle.tal_words.specs.Forms.{form}
use Rattle.uxn_limits.specs.declared.limits.TheConstants.{MACRO_DEPTH}
use Rattle.tal_macros.specs.Expansion.{Macro, Part, Plain, Head, Inside, Visited, body_named, body_defined}
use Rattle.tal_macros.specs.Expansion.{part_of, parts_from, head_length, known_at, visits, visits_given, visit_list}
use Rattle.tal_macros.specs.Expansion.{without_uses, validated_visits, validated_part, parts_of, expanded_of, expansion_fault}
use Rattle.tal_labels.specs.declared.placed.PlacedWord.{PlacedWord}
use Rattle.tal_labels.specs.Shapes.{shape_fault, validated_shape}
use Rattle.tal_labels.specs.Placing.{placing_fault, validated_place, place_fault, placed_of, placed_with, placed_given}
use Rattle.tal_rom.specs.References.{reference_fault, validated_reference}
use Rattle.tal_rom.specs.Assembly.{first_fault, layout}

-- what holds of each of two lists
all_joined : {Y : Type 0} (Q : Y → Type 0) (ys zs : List Y) → AllByRecursion Q ys → AllByRecursion Q zs → AllByRecursion Q (ys ++ zs)
all_joined Q [] zs all more = more
all_joined Q (y ∷ ys) zs all more = (all.0, all_joined Q ys zs all.1 more)

-- what holds of each thing that is made of each of some things
all_each : {X Y : Type 0} (P : X → Type 0) (Q : Y → Type 0) (make : List X → X → List X → Y)
    → ((before : List X) (x : X) (after : List X) → P x → Q (make before x after)) → (before xs : List X) → AllByRecursion P xs
    → AllByRecursion Q (each make before xs)
all_each P Q make one before [] all = tt
all_each P Q make one before (x ∷ xs) all = (one before x xs all.0, all_each P Q make one (before ++ x ∷ []) xs all.1)

all_collected : {X Y : Type 0} (P : X → Type 0) (Q : Y → Type 0) (give : List X → X → List X → List Y)
    → ((before : List X) (x : X) (after : List X) → P x → AllByRecursion Q (give before x after)) → (before xs : List X)
    → AllByRecursion P xs
    → AllByRecursion Q (collected give before xs)
all_collected P Q give one before [] all = tt
all_collected P Q give one before (x ∷ xs) all =
    let rest = all_collected P Q give one (before ++ x ∷ []) xs all.1 in
    all_joined Q (give before x xs) (collected give (before ++ x ∷ []) xs) (one before x xs all.0) rest

all_flat : {X Y : Type 0} (Q : Y → Type 0) (f : X → List Y) → ((x : X) → AllByRecursion Q (f x)) → (xs : List X)
    → AllByRecursion Q (flat_map f xs)
all_flat Q f one [] = tt
all_flat Q f one (x ∷ xs) = all_joined Q (f x) (flat_map f xs) (one x) (all_flat Q f one xs)

module _ (P : Word → Type 0) where
  -- a fault is at a word of which that holds
  pub record IsAt (fault : Fault) : Type 0 where
    pub word : Word
    pub holds : P word
    pub start : word.span.start ≡ fault.at

  abbrev IsValidated : Validated → Type 0
  IsValidated validated = P validated.origin

  or_at : (word : Word) (kind : Option FaultKind) (later : Option Fault) → P word → IfSome later IsAt
      → IfSome (option_or (option_map (fault_at word) kind) later) IsAt
  or_at word None later holds rest = rest
  or_at word (Some kind) later holds rest = record { word = word; holds = holds; start = refl }

  first_at : (words : List Validated) → AllByRecursion IsValidated words → IfSome (phase_fault words) IsAt
  first_at [] all = tt
  first_at (word ∷ words) all = or_at word.origin (slice_get word.kinds 0) (phase_fault words) all.0 (first_at words all.1)

  later_at : (earlier later : Option Fault) → IfSome earlier IsAt → IfSome later IsAt → IfSome (option_or earlier later) IsAt
  later_at None later is rest = rest
  later_at (Some fault) later is rest = is

  -- the parts of a source, the words visited for them, and the expanded list
  abbrev IsOfPart : Part → Type 0
  IsOfPart (Plain word) = P word
  IsOfPart (Head word body) = P word
  IsOfPart (Inside word) = P word

  abbrev IsOfVisit : Visited → Type 0
  IsOfVisit word = P word.origin

  abbrev IsOfExpanded : Expanded → Type 0
  IsOfExpanded word = P word.origin

  abbrev IsOfPlaced : PlacedWord → Type 0
  IsOfPlaced placed = P placed.word.origin

  visits_validated : (before : ℕ) (words : List Visited) → AllByRecursion IsOfVisit words
      → AllByRecursion IsValidated (validated_visits before words)
  visits_validated before [] all = tt
  visits_validated before (word ∷ words) all = (all.0, visits_validated (before + 1) words all.1)

  kept_of : (visited : List Visited) → AllByRecursion IsOfVisit visited → AllByRecursion IsOfExpanded (without_uses visited)
  kept_of [] all = tt
  kept_of (word ∷ words) all = grind (arith, kept_of words all.1)

  module _ (source : List ℕ) where
    part_is : (word : Word) (words : List Word) → P word → IsOfPart (part_of source word (body_defined source word words))
    part_is word words holds = grind arith

    parts_are : (inside : ℕ) (words : List Word) → AllByRecursion P words → AllByRecursion IsOfPart (parts_from source inside words)
    parts_are inside [] all = tt
    parts_are (suc inside) (word ∷ words) all = (all.0, parts_are inside words all.1)
    parts_are zero (word ∷ words) all = (part_is word words all.0, parts_are (head_length (body_defined source word words)) words all.1)

    visits_of : (known : List Macro) (origin : Word) (room : ℕ) (word : Word) → P origin
        → AllByRecursion IsOfVisit (visits source known origin room word)
    unfolding visits
    visits_of known origin zero word holds = (holds, tt)
    visits_of known origin (suc room) word holds =
        (holds, all_flat IsOfVisit _ (λ inner. visits_of known origin room inner holds) (unwrap_or (body_named known (word_text source word)) []))

    given_of : (before : List Part) (part : Part) (after : List Part) → IsOfPart part
        → AllByRecursion IsOfVisit (visits_given source before part after)
    given_of before (Plain word) after holds = visits_of (known_at source before) word MACRO_DEPTH word holds
    given_of before (Head word body) after holds = tt
    given_of before (Inside word) after holds = tt

    part_validated : (before : List Part) (part : Part) (after : List Part) → IsOfPart part
        → AllByRecursion IsValidated (validated_part source before part after)
    part_validated before (Plain word) after holds = visits_validated _ _ (visits_of (known_at source before) word MACRO_DEPTH word holds)
    part_validated before (Head word body) after holds = (holds, tt)
    part_validated before (Inside word) after holds = (holds, tt)

    placed_is : (before : List Expanded) (word : Expanded) (after : List Expanded) (answer : Result Form FaultKind) → IsOfExpanded word
        → AllByRecursion IsOfPlaced (placed_with source before word after answer)
    placed_is before word after (Err kind) holds = tt
    placed_is before word after (Ok shape) holds = (holds, tt)

    module _ (all : AllByRecursion P (words_of source)) where
      expanded_are : AllByRecursion IsOfExpanded (expanded_of source)
      unfolding expanded_of visit_list parts_of
      expanded_are = kept_of _ (all_collected IsOfPart IsOfVisit (visits_given source) given_of [] _ (parts_are 0 (words_of source) all))

      placed_are : AllByRecursion IsOfPlaced (layout source).words
      unfolding layout placed_of
      placed_are =
          all_collected IsOfExpanded IsOfPlaced (placed_given source)
          (λ before word after. placed_is before word after (form (expanded_text source word))) [] _ expanded_are

      expansion_at : IfSome (expansion_fault source) IsAt
      unfolding expansion_fault parts_of
      expansion_at = first_at _ (all_collected IsOfPart IsValidated (validated_part source) part_validated [] _ (parts_are 0 (words_of source) all))

      place_at : IfSome (place_fault source (expanded_of source)) IsAt
      unfolding place_fault shape_fault placing_fault
      place_at =
          later_at _ _ (first_at _ (all_each IsOfExpanded IsValidated (validated_shape source) (λ before word after holds. holds) [] _ expanded_are))
          (first_at _ (all_each IsOfExpanded IsValidated (validated_place source) (λ before word after holds. holds) [] _ expanded_are))

      reference_at : IfSome (reference_fault source (layout source).labels (layout source).words) IsAt
      unfolding reference_fault
      reference_at =
          first_at _
          (all_each IsOfPlaced IsValidated (validated_reference source (layout source).labels) (λ before placed after holds. holds) [] _ placed_are)

      -- the first fault of a source without a fault of words
      pub fault_at_word : word_fault source ≡ None → IfSome (first_fault source) IsAt
      unfolding first_fault
      fault_at_word none = rw none (later_at _ _ expansion_at (later_at _ _ place_at reference_at))
