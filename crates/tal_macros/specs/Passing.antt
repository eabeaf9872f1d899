-- What is left for a pass over the words of a source.
use Rattle.std.specs.Prelude.{◌≡◌, ℕ, ◌+◌, ◌-◌, ◌*◌, ◌<◌, ◌≤◌, ◌⊎◌, true, false, List}
use Rattle.std.specs.Prelude.{[], ◌∷◌, ◌++◌, length, map}
use Rattle.std.specs.Prelude.{drop, Option, Some, Result, Ok, Err}
use Rattle.std.specs.List.{flat_map}
use Rattle.tal_words.specs.declared.span.Word.{Word}
use Rattle.tal_words.specs.declared.fault.Fault.{Fault}
use Rattle.tal_words.specs.declared.fault.AsmStop.{AsmStop}
use Rattle.tal_words.specs.declared.fault.AsmStop.TheVariants.{Refused, NoMemory}
use Rattle.tal_words.specs.Source.{begins, word_text}
use Rattle.tal_words.specs.Faults.{when, phase_fault}
use Rattle.tal_words.specs.declared.fault.FaultKind.TheVariants.{MacroBody}
use Rattle.tal_macros.specs.declared.body.Body.{Body}
use Rattle.tal_macros.specs.declared.pass.Pass.{Pass}
use Rattle.tal_macros.specs.declared.pass.Turn.{Turn}
use Rattle.tal_macros.specs.declared.pass.Turn.TheVariants.{Passed, Word as Given, End}
use Rattle.uxn_limits.specs.declared.limits.TheConstants.{MACRO_DEPTH, VISIT_LIMIT}
use Rattle.tal_macros.specs.Expansion.{Macro, Part, Plain, Head, Inside, Visited, parts_from, macro_given, visits}
use Rattle.tal_macros.specs.Expansion.{head_faults, expansion_fault}
use Rattle.tal_macros.specs.Bodies.{body_words, known_macros}
use Rattle.tal_macros.specs.Steps.{ExpansionStep, visit_steps, head_steps, reached, next_word, count_to_next, visits_before_fault}

-- the first fault of steps
abbrev pub fault_of : List ExpansionStep → Option Fault
fault_of steps = phase_fault (map (λ (step : ExpansionStep). step.validated) steps)

-- steps that go on as others do, once these words are visited
pub record Continues (old new : List ExpansionStep) (words : List Visited) : Type 0 where
  pub visits : reached old ≡ words ++ reached new
  pub faults : fault_of old ≡ fault_of new

-- steps of which the first that is validated has this fault
pub record RefusesInSteps (steps : List ExpansionStep) (fault : Fault) : Type 0 where
  pub visits : reached steps ≡ []
  pub faulty : fault_of steps ≡ Some fault

-- steps at which a stop ends the pass
abbrev pub StopsInSteps : List ExpansionStep → AsmStop → Type 0
StopsInSteps steps (Refused fault) = RefusesInSteps steps fault
StopsInSteps steps NoMemory = Unit {0}

module _ (source : List ℕ) where
  -- the steps of parts, where these macros are known and so many words were visited before them
  unfoldable pub rest : List Macro → ℕ → List Part → List ExpansionStep
  rest known count [] = []
  rest known count (Plain word ∷ parts) =
      visit_steps count (visits source known word MACRO_DEPTH word)
      ++ rest known (count + length (visits source known word MACRO_DEPTH word)) parts
  rest known count (Head word body ∷ parts) =
      head_steps (record { origin = word; kinds = head_faults source word known body } ∷ [])
      ++ rest (known ++ macro_given source (Head word body)) count parts
  rest known count (Inside word ∷ parts) =
      head_steps (record { origin = word; kinds = when (begins 37 (word_text source word)) MacroBody } ∷ []) ++ rest known count parts

  module _ (words : List Word) where
    -- the words that are visited for what is left behind open uses, the outermost first, where uses may go so much deeper
    abbrev pub open_visits : List Macro → Word → ℕ → List Body → List Visited
    open_visits known origin room [] = []
    open_visits known origin room (body ∷ bodies) =
        open_visits known origin (room - 1) bodies ++ flat_map (visits source known origin room) (body_words words body)

    -- the steps of these words and then of the words of the source from an index on
    abbrev pub steps_from : List Macro → ℕ → List Visited → ℕ → List ExpansionStep
    steps_from known count pending at =
        visit_steps count pending ++ rest known (count + length pending) (parts_from source 0 (drop at words))

    -- the steps that are left for a pass
    unfoldable pub left : Pass → List ExpansionStep
    left pass =
        let known = known_macros words pass.macros.entries in
        steps_from known pass.count
        (flat_map (visits source known pass.origin (MACRO_DEPTH - length pass.outer.items)) (body_words words pass.body)
        ++ open_visits known pass.origin MACRO_DEPTH pass.outer.items)
        pass.at

    -- what falls with each step that gives no word
    abbrev pub to_go : Pass → ℕ
    to_go pass = 2 * (VISIT_LIMIT - pass.count) + length pass.outer.items + (length words - pass.at)

    -- nothing was visited
    pub record Passes (old new : Pass) : Type 0 where
      pub continues : Continues (left old) (left new) []
      pub count : new.count ≡ old.count

    -- one word was visited
    pub record Visits (old new : Pass) (word : Visited) : Type 0 where
      pub continues : Continues (left old) (left new) (word ∷ [])
      pub count : new.count ≡ old.count + 1
      pub bound : new.count ≤ VISIT_LIMIT

    -- what a step of a pass answers
    abbrev pub TurnGives : Pass → Pass → Result Turn AsmStop → Type 0
    TurnGives old new (Ok Passed) =
        (Passes old new ⊎ ((word : Visited) × (word.is_use ≡ true) × Visits old new word)) × (to_go new < to_go old)
    TurnGives old new (Ok (Given given)) =
        (word : Visited) × (word.is_use ≡ false) × (given ≡ record { text = word.text; origin = word.origin }) × Visits old new word
    TurnGives old new (Ok End) = (left old ≡ []) × Passes old new
    TurnGives old new (Err stop) = StopsInSteps (left old) stop × Passes old new

    -- a pass that has visited so many words goes on as the expansion of the source does from so many on, behind uses alone
    pub record Follows (visited : ℕ) (pass : Pass) : Type 0 where
      pub visits : reached (left pass) ≡ drop pass.count (visits_before_fault source)
      pub faults : fault_of (left pass) ≡ expansion_fault source
      pub next_is : next_word (drop visited (visits_before_fault source)) ≡ next_word (reached (left pass))
      pub ahead : visited + count_to_next (drop visited (visits_before_fault source)) ≡ pass.count + count_to_next (reached (left pass))
      pub bound : pass.count ≤ VISIT_LIMIT
      pub visited_bound : visited ≤ VISIT_LIMIT
