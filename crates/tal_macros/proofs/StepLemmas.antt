-- The steps of an expansion, as they are validated and as they visit.
use Rattle.tal_macros.proofs.Common.{◌≡◌, ℕ, ◌+◌, List, [], ◌∷◌, ◌++◌, length, map, drop, None, refl, ap, ◌∙◌, append-nil, length-append, arith}
use Rattle.tal_macros.proofs.Common.{flat_map, option_to_list, flat_map-append, map-append, collected, phase_fault, Part, Visited, known_at}
use Rattle.tal_macros.proofs.Common.{visits_given, visit_list, validated_visits, validated_part, parts_of, expansion_fault, ExpansionStep, visit_steps}
use Rattle.tal_macros.proofs.Common.{steps_given, reached, visits_before_fault, fault_of, rest}
use Rattle.tal_words.proofs.OrderLemmas.{collected-more}

-- the words that steps visit
abbrev pub visited_at : List ExpansionStep → List Visited
visited_at steps = flat_map (λ (step : ExpansionStep). option_to_list step.visit) steps

validated-visits : (before : ℕ) (words : List Visited) → map (λ (step : ExpansionStep). step.validated) (visit_steps before words) ≡ validated_visits before words
validated-visits before [] = refl
validated-visits before (word ∷ words) = grind (arith, validated-visits (before + 1) words)

pub visits-visits : (before : ℕ) (words : List Visited) → visited_at (visit_steps before words) ≡ words
visits-visits before [] = refl
visits-visits before (word ∷ words) = grind (arith, visits-visits (before + 1) words)

-- where no step has a fault all are reached
reached-all : (steps : List ExpansionStep) → fault_of steps ≡ None → reached steps ≡ visited_at steps
reached-all [] none = refl
reached-all (step ∷ steps) none = grind (arith, reached-all steps)

-- what is reached is a prefix of what is visited
reached-prefix : (steps : List ExpansionStep) → visited_at steps ≡ reached steps ++ drop (length (reached steps)) (visited_at steps)
reached-prefix [] = refl
reached-prefix (step ∷ steps) = grind (arith, reached-prefix steps)

module _ (source : List ℕ) where
  visit_list-more : (before : List Part) (part : Part) → visit_list source (before ++ part ∷ []) ≡ visit_list source before ++ visits_given source before part []
  unfolding visit_list
  visit_list-more before part = collected-more (visits_given source) (λ before part after others. grind arith) [] before part

  -- the steps of parts behind others, by the macros and the count of those
  pub collected-rest : (before parts : List Part) → collected (steps_given source) before parts ≡ rest source (known_at source before) (length (visit_list source before)) parts
  unfolding rest known_at
  collected-rest before [] = refl
  collected-rest before (part ∷ parts) =
      grind (arith, collected-rest (before ++ part ∷ []) parts, flat_map-append, visit_list-more, append-nil, length-append)

  -- the steps are validated as the parts are, and visit what they visit
  pub validated-steps : (before parts : List Part) → map (λ (step : ExpansionStep). step.validated) (collected (steps_given source) before parts) ≡ collected (validated_part source) before parts
  validated-steps before [] = refl
  validated-steps before (part ∷ parts) = grind (arith, map-append, validated-visits, validated-steps (before ++ part ∷ []) parts)

  pub visits-steps : (before parts : List Part) → visited_at (collected (steps_given source) before parts) ≡ collected (visits_given source) before parts
  visits-steps before [] = refl
  visits-steps before (part ∷ parts) = grind (arith, flat_map-append, visits-visits, visits-steps (before ++ part ∷ []) parts)

  -- the first fault of the steps is that of the expansion
  pub fault-steps : fault_of (collected (steps_given source) [] (parts_of source)) ≡ expansion_fault source
  unfolding expansion_fault
  fault-steps = ap phase_fault (validated-steps [] (parts_of source))

  -- where there is no fault the whole visit list is reached
  pub visits_before_fault-all : expansion_fault source ≡ None → visits_before_fault source ≡ visit_list source (parts_of source)
  unfolding visits_before_fault visit_list
  visits_before_fault-all none = reached-all (collected (steps_given source) [] (parts_of source)) (fault-steps ∙ none) ∙ visits-steps [] (parts_of source)

  pub visits_before_fault-prefix : (behind : List Visited) × (visit_list source (parts_of source) ≡ visits_before_fault source ++ behind)
  unfolding visits_before_fault visit_list
  visits_before_fault-prefix = rw (← visits-steps [] (parts_of source)) (_, reached-prefix (collected (steps_given source) [] (parts_of source)))
