-- The expansion word by word: which words stand before its first fault, and what an Expander gives of them.
use Rattle.std.specs.Prelude.{◌≡◌, ℕ, ◌+◌, if◌then◌else◌, List, [], ◌∷◌, ◌++◌, length, map, take, drop, slice_get}
use Rattle.std.specs.Prelude.{Option, Some, None, is_none, Result, Ok, Err}
use Rattle.std.specs.Option.{option_to_list}
use Rattle.tal_words.specs.declared.span.Expanded.{Expanded}
use Rattle.tal_words.specs.declared.fault.AsmStop.{AsmStop}
use Rattle.tal_words.specs.declared.fault.AsmStop.TheVariants.{Refused, NoMemory}
use Rattle.tal_words.specs.Order.{collected}
use Rattle.tal_words.specs.Faults.{Validated}
use Rattle.uxn_limits.specs.declared.limits.TheConstants.{MACRO_DEPTH}
use Rattle.tal_macros.specs.Expansion.{Part, Plain, Head, Inside, Visited, visit_kinds, known_at, visits, visit_list}
use Rattle.tal_macros.specs.Expansion.{validated_part, parts_of, expansion_fault, without_uses}

-- a step of the expansion: what is validated there, and the word of the visit list that it visits, unless it is of a head
pub record ExpansionStep : Type 0 where
  pub validated : Validated
  pub visit : Option Visited

-- the steps that visit words, with so many of the visit list before the first
abbrev pub visit_steps : ℕ → List Visited → List ExpansionStep
visit_steps before [] = []
visit_steps before (word ∷ words) =
    record { validated = record { origin = word.origin; kinds = visit_kinds before word }; visit = Some word } ∷ visit_steps (before + 1) words

-- the steps of what belongs to a head
abbrev pub head_steps : List Validated → List ExpansionStep
head_steps words = map (λ word. record { validated = word; visit = None }) words

-- the steps of a part, by the parts before it
abbrev pub steps_given : List ℕ → List Part → Part → List Part → List ExpansionStep
steps_given source before (Plain word) after =
    visit_steps (length (visit_list source before)) (visits source (known_at source before) word MACRO_DEPTH word)
steps_given source before (Head word body) after = head_steps (validated_part source before (Head word body) after)
steps_given source before (Inside word) after = head_steps (validated_part source before (Inside word) after)

-- the words that are visited before the first step with a fault
abbrev pub reached : List ExpansionStep → List Visited
reached [] = []
reached (step ∷ steps) = if is_none (slice_get step.validated.kinds 0) then option_to_list step.visit ++ reached steps else []

-- the words of the visit list of a source that stand before its first fault
unfoldable pub visits_before_fault : List ℕ → List Visited
visits_before_fault source = reached (collected (steps_given source) [] (parts_of source))

-- how far the expansion of a source has come: how many words of the visit list were given, or opened as uses
pub record Progress : Type 0 where
  pub source : List ℕ
  pub visited : ℕ

-- the words given so far, and what is left to visit before a fault
abbrev pub given : Progress → List Expanded
given progress = without_uses (take progress.visited (visits_before_fault progress.source))

abbrev pub words_left : Progress → List Visited
words_left progress = drop progress.visited (visits_before_fault progress.source)

-- the first word that is no use, and how many words are visited up to it
abbrev pub next_word : List Visited → Option Expanded
next_word [] = None
next_word (word ∷ words) = if word.is_use then next_word words else Some (record { text = word.text; origin = word.origin })

abbrev pub count_to_next : List Visited → ℕ
count_to_next [] = 0
count_to_next (word ∷ words) = if word.is_use then count_to_next words + 1 else 1

-- the progress after the next word
abbrev pub advanced : Progress → Progress
advanced progress = record progress { visited = progress.visited + count_to_next (words_left progress) }

-- what the next call answers
abbrev pub NextGives : Progress → Result (Option Expanded) AsmStop → Type 0
NextGives progress (Ok (Some word)) = next_word (words_left progress) ≡ Some word
NextGives progress (Ok None) = (next_word (words_left progress) ≡ None) × (expansion_fault progress.source ≡ None)
NextGives progress (Err (Refused fault)) = (next_word (words_left progress) ≡ None) × (expansion_fault progress.source ≡ Some fault)
NextGives progress (Err NoMemory) = Unit {0}

-- the progress after it
abbrev pub progress_after : Progress → Result (Option Expanded) AsmStop → Progress
progress_after progress (Err NoMemory) = progress
progress_after progress answer = advanced progress
