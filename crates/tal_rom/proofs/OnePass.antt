-- The pass over the words of a source, one word further on and at its end.
use Rattle.tal_rom.proofs.Common.{◌≡◌, ◌<◌, ◌≤◌, length, arith, ℕ, true, List, [], ◌∷◌, ◌++◌, Option, Some, None, cond, refl, sym, ◌∙◌, ap, is_some}
use Rattle.tal_rom.proofs.Common.{Expanded, Fault, VISIT_LIMIT, Progress, given, words_left, next_word, advanced, given-more, given-few, PlacedWord}
use Rattle.tal_rom.proofs.Common.{Layout, layout_of, word_added, WereAdded, WerePatched, IsOnItsWay, IsRom, AreAdded, reference_fault, pieces_of, rom_image, Vec}
use Rattle.tal_rom.proofs.Common.{waiting_count, all_fit, ◌||◌, inl, inr, none_since, place_fault, expansion_fault, expanded_of}
use Rattle.tal_rom.proofs.Common.{first_fault, layout, labels_of, placed_of}
use Rattle.tal_labels.specs.declared.placer.Placer.{Placer}
use Rattle.tal_rom.specs.declared.patcher.Patcher.{Patcher}
use Rattle.std.specs.Prelude.{MatchOption}
use Rattle.std.proofs.lemmas.Bool.{cases_Bool}
use Rattle.tal_labels.proofs.NextWord.{still_faulty, place_faulty, not_given}
use Rattle.tal_macros.proofs.GivenLemmas.{given-prefix}
use Rattle.tal_rom.proofs.PatchedLemmas.{without_known, when_faultless}

module _ (source : List ℕ) (progress : Progress) (placer : Placer) (patcher : Patcher) (so : IsOnItsWay source progress placer patcher) where
  pub few : length (given progress) < 2147483647
  few = omega (arith, given-few progress, so.bound)

  module _ (word : Expanded) (next : next_word (words_left progress) ≡ Some word) (placed : PlacedWord)
      (contents : (words : List Expanded) → length words < 2147483647 → WereAdded source words placer
      → Some placed ≡ word_added source words word) where
    same : placed.word ≡ word
    same = grind (arith, contents (given progress) few so.added)

    pub was_given : word_added source (given progress) placed.word ≡ Some placed
    was_given = ap (word_added source (given progress)) same ∙ sym (contents (given progress) few so.added)

    -- one word further on
    pub further : (placer_new : Placer) (patcher_new : Patcher) → (advanced progress).visited ≤ VISIT_LIMIT
        → ((words : List Expanded) → length words < 2147483647 → WereAdded source words placer → WereAdded source (words ++ word ∷ []) placer_new)
        → ((words : List Expanded) → length words < 2147483647 → WerePatched source words patcher → word_added source words placed.word ≡ Some placed
        → WerePatched source (words ++ placed.word ∷ []) patcher_new)
        → IsOnItsWay source (advanced progress) placer_new patcher_new
    further placer_new patcher_new bound added patched = record {
      reads = so.reads;
      bound = bound;
      added = rw (given-more progress word next) (added (given progress) few so.added);
      patched = rw (given-more progress word next, ← same) (patched (given progress) few so.patched was_given);
    }

-- a source with a fault of a phase
module _ (source : List ℕ) where
  pub faulty : (is_some (expansion_fault source) || is_some (place_fault source (expanded_of source))
      || is_some (reference_fault source (layout source).labels (layout source).words)) ≡ true → is_some (first_fault source) ≡ true
  unfolding first_fault
  faulty e = grind arith

  -- references that wait or do not fit
  pub not_known : (words : List Expanded) → expanded_of source ≡ words → (waiting_count source words ≡ 0 → all_fit source words ≡ true → ⊥)
      → is_some (first_fault source) ≡ true
  unfolding layout
  not_known words all unknown = elim (cases_Bool (is_some (reference_fault source (labels_of source words) (placed_of source words)))) [
    | inl some ↦ faulty (rw (all, some) (grind arith))
    | inr none ↦ (let known = when_faultless source words (none_since _ none) in absurd (unknown known.0 known.1))
  ]

-- a word that a placer does not take
pub not_taken : (progress : Progress) (word : Expanded) → next_word (words_left progress) ≡ Some word
    → None ≡ word_added progress.source (given progress) word → is_some (first_fault progress.source) ≡ true
not_taken progress word next e = elim (cases_Bool (is_some (expansion_fault progress.source))) [
  | inl some ↦ faulty progress.source (rw some refl)
  | inr none ↦ (
      let source = progress.source in
      let whole = rw (given-more progress word next) at (given-prefix (advanced progress) (none_since _ none)) in
      let placed = place_faulty source (expanded_of source) (rw whole (still_faulty source _ _ (not_given source (given progress) word e))) in
      faulty source (rw placed (grind arith)))
]

-- what is laid out where a placer ends without a fault
pub contents : (fault : Option Fault) (placed layout : Layout) → Some placed ≡ cond (is_some fault) None (Some layout)
    → (fault ≡ None) × (placed ≡ layout)
contents fault placed layout e = grind arith

-- the references have no fault, and the ROM is that of the source
pub patched : (source : List ℕ) (words : List Expanded) (placed : Layout) (rom : List ℕ) → placed ≡ layout_of source words → IsRom source words rom
    → (reference_fault source placed.labels placed.words ≡ None) × (rom ≡ rom_image (pieces_of source placed.labels placed.words))
patched source words placed rom laid so =
    let sound = without_known source words so.known so.fit in
    rw laid (sound, so.bytes ∙ (when_faultless source words sound).2)

-- all words were added
pub ended : (source : List ℕ) (placer : Placer) → expansion_fault source ≡ None → WereAdded source (expanded_of source) placer
    → (found : Option (Vec ℕ)) → MatchOption found (waiting_count source (expanded_of source) ≡ 0 → all_fit source (expanded_of source) ≡ true → ⊥)
    (λ rom. IsRom source (expanded_of source) rom.items)
    → MatchOption found (is_some (first_fault source) ≡ true) (λ rom. AreAdded source placer rom.items)
ended source placer faultless added None unknown = not_known source (expanded_of source) refl unknown
ended source placer faultless added (Some rom) patched = record { faultless = faultless; added = added; patched = patched }
