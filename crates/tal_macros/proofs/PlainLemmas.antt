-- A source of plain words: its expanded list is its words.
use Rattle.tal_macros.proofs.Common.{◌≡◌, ℕ, ◌+◌, ◌≤◌, false, List, [], ◌∷◌, length, map, None, refl, ap, sym, ◌∙◌, arith, AllByRecursion, lt-leb}
use Rattle.tal_macros.proofs.Common.{length-map, Word, word_text, expanded_text, collected, words_of, IsPlainWord, MACRO_DEPTH, VISIT_LIMIT, Visited}
use Rattle.tal_macros.proofs.Common.{without_uses, parts_from, known_at, visits, visit_list, parts_of, expanded_of, expansion_fault, steps_given}
use Rattle.tal_macros.proofs.Common.{visit_steps, fault_of, rest}
use Rattle.tal_macros.proofs.StepLemmas.{visited_at, collected-rest, visits-steps, visits-visits, fault-steps}

-- a word as it is visited
abbrev observed : Word → Visited
observed word = record { origin = word; text = word.span; room = MACRO_DEPTH; is_use = false }

-- the steps of such words have no fault while there are few
few_words : (count : ℕ) (words : List Word) → count + length words ≤ VISIT_LIMIT → fault_of (visit_steps count (map observed words)) ≡ None
few_words count [] few = refl
few_words count (word ∷ words) few = rw (lt-leb VISIT_LIMIT count (omega arith)) (few_words (count + 1) words (omega arith))

module _ (source : List ℕ) where
  rest_plain : (count : ℕ) (words : List Word) → AllByRecursion IsPlainWord (map (word_text source) words)
      → rest source [] count (parts_from source 0 words) ≡ visit_steps count (map observed words)
  unfolding rest visits
  rest_plain count [] none = refl
  rest_plain count (word ∷ words) none = rw (none.0.no_head, rest_plain (count + 1) words none.1) refl

  texts_observed : (words : List Word) → map (expanded_text source) (without_uses (map observed words)) ≡ map (word_text source) words
  texts_observed [] = refl
  texts_observed (word ∷ words) = ap (λ (texts : List (List ℕ)). word_text source word ∷ texts) (texts_observed words)

  module _ (texts : List (List ℕ)) (are : map (word_text source) (words_of source) ≡ texts) (none : AllByRecursion IsPlainWord texts) where
    steps_are : collected (steps_given source) [] (parts_of source) ≡ visit_steps 0 (map observed (words_of source))
    unfolding parts_of known_at visit_list
    steps_are = collected-rest source [] (parts_of source) ∙ rest_plain 0 (words_of source) (rw (← are) at none)

    pub expanded_texts : map (expanded_text source) (expanded_of source) ≡ texts
    unfolding expanded_of visit_list
    expanded_texts =
        ap (λ (visited : List Visited). map (expanded_text source) (without_uses visited))
        (sym (visits-steps source [] (parts_of source)) ∙ ap visited_at steps_are ∙ visits-visits 0 (map observed (words_of source)))
        ∙ texts_observed (words_of source) ∙ are

    pub no_expansion_fault : length texts ≤ VISIT_LIMIT → expansion_fault source ≡ None
    no_expansion_fault few =
        sym (fault-steps source) ∙ ap fault_of steps_are
        ∙ few_words 0 (words_of source) (omega (arith, few, ap length are, length-map (words_of source) (word_text source)))
