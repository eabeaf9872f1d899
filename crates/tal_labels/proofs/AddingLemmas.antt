-- Words that are added one by one: their faults, and what is kept of them.
use Rattle.std.specs.Prelude.{slice_get}
use Rattle.std.specs.Option.{option_map, option_or}
use Rattle.tal_labels.proofs.Common.{no_kind, ◌≡◌, ℕ, ◌+◌, ◌<◌, Bool, true, false, not, List, [], ◌∷◌, ◌++◌, length, take, drop, get_or, Option, Some}
use Rattle.tal_labels.proofs.Common.{None, Ok, Result, cond, ◌&&◌, refl, sym, ◌∙◌, ap, arith, is_some, Expanded, Fault, FaultKind, Form, fault_at}
use Rattle.tal_labels.proofs.Common.{phase_fault, form, opens, each, collected, expanded_text, each-step, each-more, no_word, fault-later}
use Rattle.tal_labels.proofs.Common.{fault-behind, fault-prefix, fault_or-none, shape_kinds, open_count, closing_distance, validated_shape}
use Rattle.tal_labels.proofs.Common.{shape_fault, validated_place, placing_fault, place_fault, shape_added, adding_kinds, validated_added}
use Rattle.tal_labels.proofs.Common.{added_fault, open_given, open_ones, next_fault}
use Rattle.tal_labels.proofs.LayingLemmas.{each-none, has_form}
use Rattle.tal_words.specs.declared.span.Word.{Word}
use Rattle.tal_labels.proofs.CallerLemmas.{place_fault-none}

pub append-none : (a b : List FaultKind) → slice_get (a ++ b) 0 ≡ None → (a ≡ []) × (b ≡ [])
append-none [] b e = (refl, no_kind b e)
append-none (kind ∷ a) b e = cc

-- a shape that is wrong only where its lambda is not closed
shape_closed : (f : Result Form FaultKind) (text : List ℕ) (depth : ℕ) (found : Bool) → shape_kinds f text depth true ≡ [] → (opens text && not found) ≡ false → shape_kinds f text depth found ≡ []
shape_closed f text depth found e h = grind arith

shape_open : (f : Result Form FaultKind) (text : List ℕ) (depth : ℕ) (found : Bool) → shape_kinds f text depth found ≡ [] → (shape_kinds f text depth true ≡ []) × ((opens text && not found) ≡ false)
shape_open f text depth found e = grind arith

fault_or-both : (word : Word) (kinds : List FaultKind) (later : Option Fault) → kinds ≡ [] → later ≡ None → option_or (option_map (fault_at word) (slice_get kinds 0)) later ≡ None
fault_or-both word kinds later e h = rw (e, h) refl

-- a word has a fault in one of two phases where it has one in both together
either_none : (word : Word) (a b : List FaultKind) → option_or (option_map (fault_at word) (slice_get a 0)) (option_map (fault_at word) (slice_get b 0)) ≡ None → a ++ b ≡ []
either_none word a b e = grind (arith, no_kind)

no_fault : (word : Word) (o : Option FaultKind) → option_map (fault_at word) o ≡ None → o ≡ None
no_fault word o e = grind arith

fault_or-still : (word : Word) (o : Option FaultKind) (later : Option Fault) (fault : Fault)
    → option_map (fault_at word) o ≡ Some fault → option_or (option_map (fault_at word) o) later ≡ Some fault
fault_or-still word o later fault e = grind arith

either_some : (word : Word) (a b : List FaultKind) (fault : Fault) → option_or (option_map (fault_at word) (slice_get a 0)) (option_map (fault_at word) (slice_get b 0)) ≡ Some fault
    → is_some (option_or (option_map (fault_at word) (slice_get (a ++ b) 0)) None) ≡ true
either_some word [] b fault e = grind arith
either_some word (kind ∷ a) b fault e = refl

open-head : (b : Bool) (at : ℕ) (rest : List ℕ) → cond b (at ∷ []) [] ++ rest ≡ [] → (b ≡ false) × (rest ≡ [])
open-head b at rest e = grind arith

module _ (source : List ℕ) where
  -- the faults of shapes and places by those of words that are added
  both_none : (before words : List Expanded) → phase_fault (each (validated_added source) before words) ≡ None → collected (open_given source) before words ≡ []
      → (phase_fault (each (validated_shape source) before words) ≡ None) × (phase_fault (each (validated_place source) before words) ≡ None)
  both_none before [] e h = (refl, refl)
  both_none before (word ∷ words) e h =
      let here = fault_or-none word.origin (slice_get (adding_kinds source before word) 0) (phase_fault (each (validated_added source) (before ++ word ∷ []) words)) e in
      let kinds = append-none (shape_added source before word) (validated_place source before word []).kinds here.0 in
      let opener = open-head (opens (expanded_text source word) && not (is_some (closing_distance source words))) (length before) _ h in
      let rest = both_none (before ++ word ∷ []) words here.1 opener.1 in
      (fault_or-both word.origin _ _ (shape_closed (form (expanded_text source word)) _ _ _ kinds.0 opener.0) rest.0, fault_or-both word.origin _ _ kinds.1 rest.1)

  added_none : (before words : List Expanded) → phase_fault (each (validated_shape source) before words) ≡ None → phase_fault (each (validated_place source) before words) ≡ None
      → (phase_fault (each (validated_added source) before words) ≡ None) × (collected (open_given source) before words ≡ [])
  added_none before [] e h = (refl, refl)
  added_none before (word ∷ words) e h =
      let shape = fault_or-none word.origin (slice_get (validated_shape source before word words).kinds 0) (phase_fault (each (validated_shape source) (before ++ word ∷ []) words)) e in
      let place = fault_or-none word.origin (slice_get (validated_place source before word words).kinds 0) (phase_fault (each (validated_place source) (before ++ word ∷ []) words)) h in
      let opener = shape_open (form (expanded_text source word)) (expanded_text source word) (open_count source before) (is_some (closing_distance source words)) (no_kind _ shape.0) in
      let rest = added_none (before ++ word ∷ []) words shape.1 place.1 in
      (fault_or-both word.origin _ _ (ap (λ ks. ks ++ (validated_place source before word []).kinds) opener.0 ∙ no_kind _ place.0) rest.0, rw opener.1 rest.1)

  pub place-none : (words : List Expanded) → added_fault source words ≡ None → open_ones source words ≡ [] → place_fault source words ≡ None
  unfolding added_fault open_ones place_fault shape_fault placing_fault
  place-none words e h = (let parts = both_none [] words e h in rw parts.0 parts.1)

  pub added-none : (words : List Expanded) → place_fault source words ≡ None → (added_fault source words ≡ None) × (open_ones source words ≡ [])
  unfolding added_fault open_ones shape_fault placing_fault
  added-none words e = (let parts = place_fault-none source words e in added_none [] words parts.0 parts.1)

  -- one word more
  added-step : (words : List Expanded) (word : Expanded) → each (validated_added source) [] (words ++ word ∷ []) ≡ each (validated_added source) [] words ++ validated_added source words word [] ∷ []
  added-step words word = each-more (validated_added source) (λ b w a c. refl) [] words word

  pub added-still : (words : List Expanded) (word : Expanded) → added_fault source words ≡ None → next_fault source words word ≡ None → added_fault source (words ++ word ∷ []) ≡ None
  unfolding added_fault
  added-still words word e h =
      rw (added-step words word, fault-behind (each (validated_added source) [] words) (validated_added source words word [] ∷ []) e, either_none word.origin _ _ h) refl

  pub added-faulty : (words : List Expanded) (word : Expanded) (fault : Fault) → added_fault source words ≡ None → next_fault source words word ≡ Some fault → is_some (added_fault source (words ++ word ∷ [])) ≡ true
  unfolding added_fault
  added-faulty words word fault e h =
      rw (added-step words word, fault-behind (each (validated_added source) [] words) (validated_added source words word [] ∷ []) e) (either_some word.origin _ _ fault h)

  pub added-prefix : (words : List Expanded) (word : Expanded) → is_some (added_fault source words) ≡ true → is_some (added_fault source (words ++ word ∷ [])) ≡ true
  unfolding added_fault
  added-prefix words word e = rw (added-step words word) (grind (arith, fault-prefix (each (validated_added source) [] words) (validated_added source words word [] ∷ [])))

  -- words without a fault have a form
  pub formed-added : (words : List Expanded) → added_fault source words ≡ None → (k : ℕ) → k < length words → (shape : Form) × (form (expanded_text source (get_or words k no_word)) ≡ Ok shape)
  unfolding added_fault
  formed-added words sound k within = has_form _ _ (open_count source (take k words)) true (append-none (shape_added source (take k words) (get_or words k no_word)) _ (each-none (validated_added source) words sound k within)).0

  -- where the shapes of all words have no fault, the fault of a word is that of its place
  placed-fault : (words : List Expanded) (k : ℕ) → shape_fault source words ≡ None → k < length words
      → next_fault source (take k words) (get_or words k no_word) ≡ option_map (fault_at (get_or words k no_word).origin) (slice_get (validated_place source (take k words) (get_or words k no_word) (drop (k + 1) words)).kinds 0)
  unfolding shape_fault
  placed-fault words k sound within =
      let opener = shape_open (form (expanded_text source (get_or words k no_word))) _ _ _ (no_kind _ (each-none (validated_shape source) words sound k within)) in
      rw opener.0 refl

  pub place-later : (words : List Expanded) (k : ℕ) → shape_fault source words ≡ None → k < length words → next_fault source (take k words) (get_or words k no_word) ≡ None
      → phase_fault (each (validated_place source) (take (k + 1) words) (drop (k + 1) words)) ≡ phase_fault (each (validated_place source) (take k words) (drop k words))
  place-later words k sound within e =
      fault-later (validated_place source) words k no_word within (no_fault (get_or words k no_word).origin _ (sym (placed-fault words k sound within) ∙ e))

  pub place-here : (words : List Expanded) (k : ℕ) (fault : Fault) → shape_fault source words ≡ None → k < length words → next_fault source (take k words) (get_or words k no_word) ≡ Some fault
      → phase_fault (each (validated_place source) (take k words) (drop k words)) ≡ Some fault
  place-here words k fault sound within e =
      ap phase_fault (each-step (validated_place source) words k no_word within)
      ∙ fault_or-still (get_or words k no_word).origin _ _ fault (sym (placed-fault words k sound within) ∙ e)
