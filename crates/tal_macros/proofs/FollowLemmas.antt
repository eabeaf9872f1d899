-- A pass that goes on as the expansion of its source does.
use Rattle.tal_macros.proofs.Common.{◌≡◌, ℕ, ◌≤◌, ◌⊎◌, inl, inr, true, false, List, [], drop, Some, None, ap, sym, ◌∙◌, arith, drop-drop, Word}
use Rattle.tal_macros.proofs.Common.{Expanded, collected, words_of, Pass, VISIT_LIMIT, Visited, parts_of, parts_from, known_at, visit_list}
use Rattle.tal_macros.proofs.Common.{steps_given, reached, next_word, visits_before_fault, Progress, words_left, advanced, rest, left, Passes, Visits}
use Rattle.tal_macros.proofs.Common.{Follows}
use Rattle.tal_macros.proofs.StepLemmas.{collected-rest, fault-steps}

module _ (source : List ℕ) (words : List Word) where
  abbrev pub progress : ℕ → Progress
  progress visited = record { source = source; visited = visited }

  pub follows-start : (pass : Pass) → left source words pass ≡ rest source [] 0 (parts_from source 0 words) → pass.count ≡ 0 → words ≡ words_of source
      → Follows source words 0 pass
  unfolding visits_before_fault known_at visit_list parts_of
  follows-start pass is none all =
      let steps : left source words pass ≡ collected (steps_given source) [] (parts_of source) =
      is ∙ ap (λ ws. rest source [] 0 (parts_from source 0 ws)) all ∙ sym (collected-rest source [] (parts_of source)) in
      grind (arith, fault-steps source)

  module _ (visited : ℕ) (old new : Pass) (follows : Follows source words visited old) where
    module _ (word : Visited) (step : Visits source words old new word) where
      behind : reached (left source words new) ≡ drop new.count (visits_before_fault source)
      behind =
          ap (drop 1) (sym step.continues.visits ∙ follows.visits) ∙ drop-drop 1 old.count (visits_before_fault source)
          ∙ ap (λ n. drop n (visits_before_fault source)) (sym step.count)

      -- after a word that is no use
      pub follows-given : Follows source words new.count new
      follows-given = grind (arith, behind)

      pub next-given : word.is_use ≡ false → (given : Expanded) → given ≡ record { text = word.text; origin = word.origin } → (next_word (words_left (progress visited)) ≡ Some given) × (progress new.count ≡ advanced (progress visited))
      next-given plain given is = (grind arith, ap progress (grind arith))

    -- where nothing is left to visit
    pub next-none : reached (left source words old) ≡ [] → Passes source words old new
        → (next_word (words_left (progress visited)) ≡ None) × (progress new.count ≡ advanced (progress visited))
        × (new.count ≤ VISIT_LIMIT)
    next-none none passes = (grind arith, ap progress (grind arith), omega (arith, passes.count, follows.bound))

  -- after a step that gives no word
  pub follows-turn : (visited : ℕ) (old new : Pass) → Follows source words visited old
      → Passes source words old new ⊎ ((word : Visited) × (word.is_use ≡ true) × Visits source words old new word) → Follows source words visited new
  follows-turn visited old new follows (inl passes) = grind arith
  follows-turn visited old new follows (inr opened) = grind (arith, behind visited old new follows opened.0 opened.2)
