-- The word that a placer gives next: what is known of it, and of the words before it.
use Rattle.std.specs.Prelude.{slice_get}
use Rattle.tal_labels.proofs.Common.{◌≡◌, ℕ, suc, ◌+◌, ◌<◌, ◌≤◌, inl, inr, Bool, true, false, not, ◌&&◌, List, [], ◌∷◌, ◌++◌, length, map}
use Rattle.tal_labels.proofs.Common.{Some, None, Ok, Err, Result, cond, refl, sym, ◌∙◌, ap, arith, append_assoc, append-nil, length-append, is_some}
use Rattle.tal_labels.proofs.Common.{AllByRecursion, list_any, and_parts, nat_tests, list_any-append, ltb, Expanded, FaultKind, Form, opens}
use Rattle.tal_labels.proofs.Common.{form, size, address_named, each, collected, expanded_text, no_word, each-more, fault-behind, fault_or-none}
use Rattle.tal_labels.proofs.Common.{PlacedWord, address_after, defined_name, labels_of, scope_after, is_mark_form, formed_size, is_defined}
use Rattle.tal_labels.proofs.Common.{ends_given, ends_above, validated_place, placed_given, place_fault, shape_added, adding_kinds, validated_added}
use Rattle.tal_labels.proofs.Common.{added_fault, open_word, word_added, open_given, closing_distance}
use Rattle.std.specs.Str.{bytes_eq}
use Rattle.std.proofs.Math.Seq.{get_or-append_seam}
use Rattle.std.proofs.lemmas.Bool.{cases_Bool}
use Rattle.tal_words.specs.declared.form.Form.TheVariants.{Refer}
use Rattle.tal_words.specs.declared.name.Label.{Label}
use Rattle.tal_words.proofs.BlankFree.{all_joined}
use Rattle.tal_words.proofs.BraceLemmas.{opener}
use Rattle.tal_labels.specs.Adding.{given_word}
use Rattle.tal_labels.specs.Placers.{IsOpen, IsOpenAt}
use Rattle.tal_labels.specs.Placing.{placed_with}
use Rattle.tal_labels.proofs.IndexLemmas.{none_since}
use Rattle.tal_labels.proofs.LayingLemmas.{IsWellPlaced, well_placed, or_false}
use Rattle.tal_labels.proofs.CallerLemmas.{HaveForms, placed_word}
use Rattle.tal_labels.proofs.AddingLemmas.{append-none, formed-added, added-prefix, added-none}

pub none_named : (labels : List Label) (name : List ℕ) → list_any (λ label. bytes_eq name label.name) labels ≡ false
    → address_named labels name ≡ None
none_named [] name e = refl
none_named (label ∷ labels) name e = grind (arith, none_named labels name)

end_low : (place address size : ℕ) → list_any (λ end. ltb place end) (cond (ltb 0 size) ((address + size) ∷ []) []) ≡ false
    → 0 < size → address + size ≤ place
end_low place address size none some = grind (arith, nat_tests)

module _ (source : List ℕ) where
  -- the openers that are open
  open_at : (front : List PlacedWord) (placed : PlacedWord) (rest : List PlacedWord) (at : ℕ) → at ≡ length front → IsOpen source placed
      → IsOpenAt source (front ++ placed ∷ rest) at
  open_at [] placed rest at e is = rw e is
  open_at (first ∷ front) placed rest at e is = rw e (open_at front placed rest (length front) refl is)

  pub open_are : (front : List PlacedWord) (before words : List Expanded) → length before ≡ length front → HaveForms source words
      → AllByRecursion (IsOpenAt source (front ++ collected (placed_given source) before words)) (collected (open_given source) before words)
  open_are front before [] same all = tt
  open_are front before (word ∷ words) same all =
      let formed = all 0 (omega arith) in
      let placed = placed_word source before word words formed.0 in
      let rest = collected (placed_given source) (before ++ word ∷ []) words in
      let size : length (before ++ word ∷ []) ≡ length (front ++ placed ∷ []) =
      omega (arith, length-append before (word ∷ []), length-append front (placed ∷ []), same) in
      let others = rw (append_assoc front (placed ∷ []) rest) at
      (open_are (front ++ placed ∷ []) (before ++ word ∷ []) words size (λ k within. all (suc k) (omega arith))) in
      rw formed.1 (all_joined (IsOpenAt source (front ++ placed ∷ rest)) _ _ (by formed.0 formed.1 rest _ refl) others)
    where
      by : (shape : Form) → form (expanded_text source word) ≡ Ok shape → (rest : List PlacedWord) (b : Bool)
          → (opens (expanded_text source word) && not (is_some (closing_distance source words))) ≡ b
          → AllByRecursion (IsOpenAt source (front ++ placed_word source before word words shape ∷ rest)) (cond b (length before ∷ []) [])
      by shape shaped rest false e = tt
      by shape shaped rest true e =
          let parts = and_parts (opens (expanded_text source word)) (not (is_some (closing_distance source words))) e in
          let found = opener (expanded_text source word) parts.0 in
          let none : closing_distance source words ≡ None = grind arith in
          let both : Ok shape ≡ Ok (Refer found.0) = sym shaped ∙ found.1 in (
            open_at front (placed_word source before word words shape) rest (length before) same
                (record { rune = found.0; shape = cc; opening = parts.0; unended = rw (parts.0, none) refl }),
            tt,
          )

  -- the words end at or below a place that none of their ends lies above
  abbrev span_of : PlacedWord → ℕ × ℕ
  span_of placed = (placed.address, size placed.form (expanded_text source placed.word))

  abbrev EndsBy : ℕ → ℕ × ℕ → Type 0
  EndsBy place span = 0 < span.1 → span.0 + span.1 ≤ place

  pub ends_below : (place : ℕ) (before rest : List Expanded)
      → list_any (λ end. ltb place end) (collected (ends_given source) before rest) ≡ false
      → AllByRecursion (EndsBy place) (map span_of (collected (placed_given source) before rest))
  ends_below place before [] e = tt
  ends_below place before (word ∷ rest) e =
      let parts = or_false _ _ (rw (list_any-append (λ end. ltb place end) (ends_given source before word rest)) at e) in
      by (form (expanded_text source word)) (end_low place (address_after source before) _ parts.0)
      (ends_below place (before ++ word ∷ []) rest parts.1)
    where
      by : (f : Result Form FaultKind)
          → (0 < formed_size f (expanded_text source word) → address_after source before + formed_size f (expanded_text source word) ≤ place)
          → AllByRecursion (EndsBy place) (map span_of (collected (placed_given source) (before ++ word ∷ []) rest))
          → AllByRecursion (EndsBy place)
          (map span_of (placed_with source before word rest f ++ collected (placed_given source) (before ++ word ∷ []) rest))
      by (Err kind) low later = later
      by (Ok shape) low later = (low, later)

-- what is known of a word that a placer gave behind others
pub record IsNextWord (source : List ℕ) (words : List Expanded) (placed : PlacedWord) : Type 0 where
  pub sound_all : added_fault source (words ++ placed.word ∷ []) ≡ None
  pub sound : added_fault source words ≡ None
  pub formed : form (expanded_text source placed.word) ≡ Ok placed.form
  pub whole : open_word source words placed.word placed.form ≡ placed
  pub address : placed.address ≡ address_after source words
  pub well : IsWellPlaced (is_defined (labels_of source words) (defined_name (Ok placed.form) (scope_after source words) (expanded_text source placed.word)))
      (address_after source words) (size placed.form (expanded_text source placed.word)) (is_mark_form placed.form)
      (ends_above source words (address_after source words))

module _ (source : List ℕ) (words : List Expanded) where
  prefix_sound : (word : Expanded) → added_fault source (words ++ word ∷ []) ≡ None → added_fault source words ≡ None
  prefix_sound word e = grind (arith, added-prefix source words word)

  next_kinds : (word : Expanded) → added_fault source (words ++ word ∷ []) ≡ None → slice_get (validated_place source words word []).kinds 0 ≡ None
  unfolding added_fault
  next_kinds word e =
      let behind = fault-behind (each (validated_added source) [] words) (validated_added source words word [] ∷ []) (prefix_sound word e) in
      let last = rw (each-more (validated_added source) (λ b w a c. refl) [] words word, behind) at e in
      let none = fault_or-none word.origin (slice_get (adding_kinds source words word) 0) None last in
      ap (λ kinds. slice_get kinds 0) (append-none (shape_added source words word) (validated_place source words word []).kinds none.0).1

  given_parts : (b : Bool) (f : Result Form FaultKind) (placed : PlacedWord) → given_word source words placed.word b f ≡ Some placed
      → (b ≡ false) × (f ≡ Ok placed.form) × (open_word source words placed.word placed.form ≡ placed)
  given_parts b f placed e = grind arith

  pub given_next : (placed : PlacedWord) → word_added source words placed.word ≡ Some placed → IsNextWord source words placed
  given_next placed e =
      let parts = given_parts (is_some (added_fault source (words ++ placed.word ∷ []))) (form (expanded_text source placed.word)) placed e in
      let sound = none_since (added_fault source (words ++ placed.word ∷ [])) parts.0 in
      record {
        sound_all = sound;
        sound = prefix_sound placed.word sound;
        formed = parts.1;
        whole = parts.2;
        address = ap (λ p. p.address) (sym parts.2);
        well = well_placed _ _ _ _ _ (rw parts.1 at (next_kinds placed.word sound));
      }

module _ (source : List ℕ) where
  -- a fault of words stays where words come behind them
  pub still_faulty : (words rest : List Expanded) → is_some (added_fault source words) ≡ true → is_some (added_fault source (words ++ rest)) ≡ true
  still_faulty words [] e = rw append-nil e
  still_faulty words (word ∷ rest) e =
      rw (← append_assoc words (word ∷ []) rest) (still_faulty (words ++ word ∷ []) rest (added-prefix source words word e))

  pub place_faulty : (words : List Expanded) → is_some (added_fault source words) ≡ true → is_some (place_fault source words) ≡ true
  place_faulty words e = elim (cases_Bool (is_some (place_fault source words))) [
    | inl some ↦ some
    | inr none ↦ (let never : false ≡ true = rw (added-none source words (none_since _ none)).0 at e in cc)
  ]

  pub not_given : (words : List Expanded) (word : Expanded) → None ≡ word_added source words word
      → is_some (added_fault source (words ++ word ∷ [])) ≡ true
  not_given words word e = elim (cases_Bool (is_some (added_fault source (words ++ word ∷ [])))) [
    | inl some ↦ some
    | inr none ↦ (
        let formed = formed-added source (words ++ word ∷ []) (none_since _ none) (length words) (omega (arith, length-append words (word ∷ []))) in
        let here = rw (get_or-append_seam words word [] no_word) at formed.1 in
        let never : None ≡ Some (open_word source words word formed.0) = rw (none, here) at e in
        cc)
  ]
