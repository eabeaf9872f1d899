-- What a placer keeps, with one word more.
use Rattle.std.specs.Prelude.{slice_get}
use Rattle.std.specs.Option.{option_map}
use Rattle.tal_labels.proofs.Common.{◌≡◌, ℕ, ◌+◌, ◌-◌, ◌^◌, ◌<◌, Bool, true, false, List, [], ◌∷◌, ◌++◌, length, Option, Some, None, Ok, refl, sym}
use Rattle.tal_labels.proofs.Common.{◌∙◌, ap, arith, length-append, append-nil, inl, inr, take-append_seam, last_of-more, ltb, Expanded, FaultKind}
use Rattle.tal_labels.proofs.Common.{Form, fault_at, form, size, opens, closes, expanded_text, PlacedWord, address_after, defined_name, shape_kinds}
use Rattle.tal_labels.proofs.Common.{is_mark_form, is_defined, place_kinds, validated_place, placed_of, shape_added, added_fault, open_word}
use Rattle.tal_labels.proofs.Common.{open_ones, PlacerModel, PlacerIsMaintained, next_fault, closed_labels, closed_opener, openers_step, IsStep}
use Rattle.tal_labels.specs.Scopes.{scope_text}
use Rattle.tal_words.proofs.BraceLemmas.{opens-closes}
use Rattle.tal_labels.proofs.CallerLemmas.{length-placed_of}
use Rattle.tal_labels.proofs.LayingLemmas.{address_after-more, scope_after-append, labels_of-append, top-append}
use Rattle.tal_labels.proofs.OpenLemmas.{opened, still-more, ClosesLast, closes_last, length-open_ones}
use Rattle.tal_labels.proofs.AddingLemmas.{added-still, formed-added}

-- the word that comes next, with what is read of it
pub record IsNext (source : List ℕ) (word : Expanded) (shape : Form) (text : List ℕ) : Type 0 where
  pub read : text ≡ expanded_text source word
  pub formed : form text ≡ Ok shape

module _ (source : List ℕ) (words : List Expanded) (word : Expanded) (kept : PlacerModel) (so : PlacerIsMaintained source words kept) where
  shape_read : (text : List ℕ) (depth : ℕ) → depth ≡ length kept.openers → text ≡ expanded_text source word
      → shape_kinds (form text) text depth true ≡ shape_added source words word
  shape_read text depth deep read = rw (deep, read, so.openers, ← length-open_ones source words) refl

  place_read : (shape : Form) (text : List ℕ) → IsNext source word shape text
      → place_kinds (is_defined kept.labels (defined_name (Ok shape) (scope_text source kept.scope) text)) kept.address (size shape text) (is_mark_form shape) (ltb kept.address kept.top) ≡ (validated_place source words word []).kinds
  place_read shape text next = grind (arith, so.top kept.address, so.labels, so.scope, so.address, next.read, next.formed)

  pub refused_shape : (text : List ℕ) (depth : ℕ) (kind : FaultKind) → depth ≡ length kept.openers → text ≡ expanded_text source word
      → slice_get (shape_kinds (form text) text depth true) 0 ≡ Some kind → next_fault source words word ≡ Some (fault_at word.origin kind)
  refused_shape text depth kind deep read e = rw (← shape_read text depth deep read, e) refl

  pub validated_next : (shape : Form) (text : List ℕ) (depth : ℕ) (name : Option (List ℕ)) (o : Option FaultKind) → IsNext source word shape text
      → depth ≡ length kept.openers → name ≡ defined_name (Ok shape) (scope_text source kept.scope) text → slice_get (shape_kinds (form text) text depth true) 0 ≡ None
      → slice_get (place_kinds (is_defined kept.labels name) kept.address (size shape text) (is_mark_form shape) (ltb kept.address kept.top)) 0 ≡ o
      → next_fault source words word ≡ option_map (fault_at word.origin) o
  validated_next shape text depth name o next deep named e f =
      rw (← shape_read text depth deep next.read, e, ← place_read shape text next, ← named, f) refl

-- the last opener is closed, where there is one
closes_by : (address at : ℕ) (old new : List PlacedWord) (before after : List ℕ) → ClosesLast 0 address old new before after
    → (closed_labels (closed_opener false true before) address old ≡ new) × (openers_step false true at before ≡ after)
closes_by address at old new before after (inl none) = (rw (none.0, none.2) refl, rw (none.0, none.1) refl)
closes_by address at old new before after (inr some) =
    let start : 0 + some.1 ≡ some.1 = omega arith in
    let size : length (some.0 ++ (0 + some.1) ∷ []) - 1 ≡ length some.0 = omega (arith, length-append some.0 ((0 + some.1) ∷ [])) in
    (rw (some.2, last_of-more, start, some.4) refl, rw (some.2, size, take-append_seam, some.3) refl)

-- the places and the open lambdas with one word more
module _ (source : List ℕ) (words : List Expanded) (word : Expanded) (shape : Form) (shaped : form (expanded_text source word) ≡ Ok shape) (formed : added_fault source words ≡ None) where
  pub next_ones : (opening closing : Bool) → opens (expanded_text source word) ≡ opening → closes (expanded_text source word) ≡ closing
      → (closed_labels (closed_opener opening closing (open_ones source words)) (address_after source words) (placed_of source words ++ open_word source words word shape ∷ []) ≡ placed_of source (words ++ word ∷ []))
      × (openers_step opening closing (length words) (open_ones source words) ≡ open_ones source (words ++ word ∷ []))
  unfolding placed_of open_ones
  next_ones true true e f = (let never : true ≡ false = sym f ∙ opens-closes (expanded_text source word) e in cc)
  next_ones true false e f = (let more = still-more source word shape shaped f [] words in (sym more.0, sym (rw e at more.1)))
  next_ones false false e f = (let more = still-more source word shape shaped f [] words in (sym more.0, sym (rw (e, append-nil (opened source [] words)) at more.1)))
  next_ones false true e f = closes_by _ (length words) _ _ _ _ (closes_last source word shape shaped f [] words (formed-added source words formed))

  pub placed_next : closed_labels (closed_opener (opens (expanded_text source word)) (closes (expanded_text source word)) (open_ones source words)) (address_after source words)
      (placed_of source words ++ open_word source words word shape ∷ []) ≡ placed_of source (words ++ word ∷ [])
  placed_next = (next_ones _ _ refl refl).0

pub next_kept : (source : List ℕ) (words : List Expanded) (word : Expanded) (shape : Form) (text : List ℕ) (name : Option (List ℕ)) (placed : PlacedWord) (old new : PlacerModel)
    → PlacerIsMaintained source words old → IsNext source word shape text → length words < 2 ^ 31 - 1 → length text < 2 ^ 32
    → name ≡ defined_name (Ok shape) (scope_text source old.scope) text
    → placed ≡ record { word = word; form = shape; address = old.address; size = size shape text; lambda = None }
    → next_fault source words word ≡ None
    → (0 < size shape text → ltb old.address old.top ≡ false)
    → IsStep source shape text name placed old new
    → (placed ≡ open_word source words word shape) × PlacerIsMaintained source (words ++ word ∷ []) new
next_kept source words word shape text name placed old new so next few short named here sound above step =
    let shaped = rw next.read at next.formed in
    let fresh : placed ≡ open_word source words word shape = rw (here, next.read, so.address) refl in
    let count : length old.words ≡ length words = ap length so.placed ∙ length-placed_of source words (formed-added source words so.sound) in
    let sized : placed.size ≡ size shape (expanded_text source word) = ap (λ (p : PlacedWord). p.size) fresh in
    let ones = next_ones source words word shape shaped so.sound _ _ refl refl in (
      fresh,
      record {
        sound = added-still source words word so.sound sound;
        placed = rw (step.words, next.read, so.openers, so.address, so.placed, fresh) ones.0;
        labels = rw (step.labels, named, so.labels, so.scope, next.read, so.address) (sym (labels_of-append source words word shape shaped));
        openers = rw (step.openers, next.read, so.openers, count) ones.1;
        scope = rw (step.scope, so.scope, next.read) (sym (scope_after-append source words word shape shaped));
        address = rw (step.address (omega (arith, so.small)) short, next.read, so.address) (sym (address_after-more source words word shape shaped));
        top = top-append source words word shape shaped placed.size old.top new.top sized so.top
            (λ some. ap (λ a. ltb a old.top) (sym so.address) ∙ above (rw (sized, ← next.read) at some)) (rw (← so.address) step.top);
        small = omega (arith, so.small, step.small short, length-append words (word ∷ []));
      },
    )
