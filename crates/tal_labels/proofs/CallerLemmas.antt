-- What a caller of `place` cites: each word of a layout without a fault.
use Rattle.tal_labels.proofs.Common.{no_kind, ◌≡◌, ℕ, zero, suc, ◌+◌, ◌<◌, ◌≤◌, inl, inr, true, false, List, [], ◌∷◌, ◌++◌, length, take, drop}
use Rattle.tal_labels.proofs.Common.{get_or, None, map, length-map, ap, Ok, refl, arith, append_assoc, append-nil, is_some, ◌||◌, list_any, ltb}
use Rattle.tal_labels.proofs.Common.{ltb-false, lt-ltb, cases_lt, take_more, Expanded, Form, form, size, PlacedWord, collected, expanded_text}
use Rattle.tal_labels.proofs.Common.{address_after, defined_name, scope_after, labels_of, open_count, closing_distance, validated_shape, shape_fault}
use Rattle.tal_labels.proofs.Common.{is_mark_form, is_defined, ends_above, validated_place, placing_fault, place_fault, lambda_address, placed_given}
use Rattle.tal_labels.proofs.Common.{placed_of, ends_given, ends_of, LieApart, open_word, no_word}
use Rattle.tal_labels.proofs.LayingLemmas.{IsWellPlaced, well_placed, ends_of-append, or_false, each-none, has_form}

-- each of the words has a form
abbrev pub HaveForms : List ℕ → List Expanded → Type 0
HaveForms source words = (k : ℕ) → k < length words → (shape : Form) × (form (expanded_text source (get_or words k no_word)) ≡ Ok shape)

-- where no word has a fault, none has one of its shape or of its place
pub place_fault-none : (source : List ℕ) (words : List Expanded) → place_fault source words ≡ None → (shape_fault source words ≡ None) × (placing_fault source words ≡ None)
unfolding place_fault
place_fault-none source words e = grind arith

-- each word then has a form
pub formed_at : (source : List ℕ) (words : List Expanded) → shape_fault source words ≡ None → (k : ℕ) → k < length words → (shape : Form) × (form (expanded_text source (get_or words k no_word)) ≡ Ok shape)
unfolding shape_fault
formed_at source words sound k within =
    let word = get_or words k no_word in
    has_form _ (expanded_text source word) (open_count source (take k words)) (is_some (closing_distance source (drop (k + 1) words))) (no_kind _ (each-none (validated_shape source) words sound k within))

-- what a well placed word of a form is
placed_well : (source : List ℕ) (words : List Expanded) → placing_fault source words ≡ None → (k : ℕ) → k < length words → (shape : Form) → form (expanded_text source (get_or words k no_word)) ≡ Ok shape
    → IsWellPlaced (is_defined (labels_of source (take k words)) (defined_name (Ok shape) (scope_after source (take k words)) (expanded_text source (get_or words k no_word)))) (address_after source (take k words)) (size shape (expanded_text source (get_or words k no_word))) (is_mark_form shape) (ends_above source (take k words) (address_after source (take k words)))
unfolding placing_fault
placed_well source words sound k within shape e = well_placed _ _ _ _ _ (rw e at (each-none (validated_place source) words sound k within))

-- a word that is laid out
abbrev pub placed_word : List ℕ → List Expanded → Expanded → List Expanded → Form → PlacedWord
placed_word source before word after shape = record (open_word source before word shape) { lambda = lambda_address source before word after }

collected_at : (source : List ℕ) (before words : List Expanded) → HaveForms source words
    → (k : ℕ) (shape : Form) (d : PlacedWord) → k < length words → form (expanded_text source (get_or words k no_word)) ≡ Ok shape
    → get_or (collected (placed_given source) before words) k d ≡ placed_word source (before ++ take k words) (get_or words k no_word) (drop (k + 1) words) shape
collected_at source before [] all k shape d within e = absurd (omega arith)
collected_at source before (word ∷ words) all zero shape d within e = rw (e, append-nil before) refl
collected_at source before (word ∷ words) all (suc k) shape d within e =
    let next : suc k + 1 ≡ suc (k + 1) = omega arith in
    rw ((all 0 (omega arith)).1, collected_at source (before ++ word ∷ []) words (λ j below. all (suc j) (omega arith)) k shape d (omega arith) e, append_assoc before (word ∷ []) (take k words), next) refl

-- the words that have places are all words
pub placed_words : (source : List ℕ) (before words : List Expanded) → HaveForms source words
    → map (λ placed. placed.word) (collected (placed_given source) before words) ≡ words
placed_words source before [] all = refl
placed_words source before (word ∷ words) all =
    rw ((all 0 (omega arith)).1, placed_words source (before ++ word ∷ []) words (λ j below. all (suc j) (omega arith))) refl

pub length-placed_of : (source : List ℕ) (words : List Expanded) → HaveForms source words
    → length (placed_of source words) ≡ length words
unfolding placed_of
length-placed_of source words all = omega (arith, ap length (placed_words source [] words all), length-map (placed_of source words) (λ (p : PlacedWord). p.word))

-- a place that no end of some words lies above lies at or above the end of each of them that has bytes
ends_below : (source : List ℕ) (words : List Expanded) (place k : ℕ) → k ≤ length words → list_any (λ end. ltb place end) (ends_of source (take k words)) ≡ false
    → (i : ℕ) → i < k → (shape : Form) → form (expanded_text source (get_or words i no_word)) ≡ Ok shape → 0 < size shape (expanded_text source (get_or words i no_word))
    → address_after source (take i words) + size shape (expanded_text source (get_or words i no_word)) ≤ place
ends_below source words place zero inside none i below shape e some = absurd (omega arith)
ends_below source words place (suc k) inside none i below shape e some =
    let next : suc k ≡ k + 1 = omega arith in
    let parts = or_false _ _ (rw (next, take_more words k no_word (omega arith), ends_of-append source (take k words) (get_or words k no_word) place) at none) in
    elim (cases_lt i k) [
      | inl earlier ↦ ends_below source words place k (omega arith) parts.0 i earlier shape e some
      | inr last ↦ (
          let same : k ≡ i = omega arith in
          let text = expanded_text source (get_or words i no_word) in
          let here : list_any (λ end. ltb place end) (ends_given source (take i words) (get_or words i no_word) []) ≡ false = rw same at parts.1 in
          let has : ltb 0 (size shape text) ≡ true = lt-ltb 0 (size shape text) some in
          let test : (ltb place (address_after source (take i words) + size shape text) || false) ≡ false = rw (e, has) at here in
          ltb-false place _ (or_false _ _ test).0)
    ]

-- the words of a layout without a fault lie in memory, each above the ends of those before it
pub lie_apart : (source : List ℕ) (words : List Expanded) → shape_fault source words ≡ None → placing_fault source words ≡ None → LieApart source (placed_of source words)
unfolding placed_of
lie_apart source words shaped sound = let all = formed_at source words shaped in let count = length-placed_of source words all in record {
  each = λ k d within.
      let inside : k < length words = omega (arith, count) in
      let formed = all k inside in
      let well = placed_well source words sound k inside formed.0 formed.1 in
      let read = collected_at source [] words all k formed.0 d inside formed.1 in
      rw read (record { shape = formed.1; sized = refl; start = well.low; end = well.high });
  apart = λ i k d before within some more.
      let inside : k < length words = omega (arith, count) in
      let first = all i (omega arith) in
      let second = all k inside in
      let well = placed_well source words sound k inside second.0 second.1 in
      let read_first = collected_at source [] words all i first.0 d (omega arith) first.1 in
      let read = collected_at source [] words all k second.0 d inside second.1 in
      rw (read_first, read)
      (ends_below source words (address_after source (take k words)) k (omega arith) (well.above (rw read at more)) i before first.0 first.1 (rw read_first at some));
}
