use Rattle.std.specs.Prelude.{slice_get}
use Rattle.tal_macros.proofs.Common.{◌≡◌, ℕ, ◌+◌, ◌-◌, ◌<◌, inr, true, List, ◌∷◌, [], ◌++◌, length, Option, Some, None, is_some, refl, ap, sym, ◌∙◌}
use Rattle.tal_macros.proofs.Common.{arith, unwrap_or, flat_map, option_map, Word, Expanded, FaultKind, word_text, fault_at, Body, Pass}
use Rattle.tal_macros.proofs.Common.{body_words, known_macros, MACRO_DEPTH, VISIT_LIMIT, Macro, Visited, body_named, visited, visits, visit_kinds}
use Rattle.tal_macros.proofs.Common.{left, steps_from, RefusesInSteps, Visits}
use Rattle.tal_macros.proofs.PassLemmas.{pending, pending-push, steps-word, steps-inside, refuses-at, continues-along, continues-same}
use Rattle.tal_macros.proofs.pass.Pass.visit.Goals as goal

-- a visit of the first word of the body, by the body that it names
module _ (source : List ℕ) (words : List Word) (old : Pass) (word : Word) (text : List ℕ) (used : Option Body)
    (first : body_words words old.body ≡ word ∷ body_words words (record { from = old.body.from + 1; to = old.body.to })) (is_text : text ≡ word_text source word)
    (ensured : (all : List Word) → option_map (body_words all) used ≡ body_named (known_macros all old.macros.entries) text)
    (answer : Option FaultKind)
    (validated : (word : Visited) → word.is_use ≡ is_some used → word.room ≡ MACRO_DEPTH - length old.outer.items → answer ≡ slice_get (visit_kinds old.count word) 0) where
  abbrev known : List Macro
  known = known_macros words old.macros.entries

  abbrev next : Body
  next = record { from = old.body.from + 1; to = old.body.to }

  abbrev observed : Visited
  observed = visited source known old.origin (MACRO_DEPTH - length old.outer.items) word

  named : body_named known (word_text source word) ≡ option_map (body_words words) used
  named = rw (← is_text) (sym (ensured words))

  is_use : observed.is_use ≡ is_some used
  is_use = rw named (grind arith)

  refused : (kind : FaultKind) → answer ≡ Some kind → RefusesInSteps (left source words old) (fault_at old.origin kind)
  unfolding left
  refused kind is =
      refuses-at _ _ _ _ kind (steps-word source words known old.origin old.outer.items old.body next word old.count old.at first).1 (sym (validated observed is_use refl) ∙ is)

  sound : answer ≡ None → (answer ≡ None → is_some used ≡ true → length old.outer.items < MACRO_DEPTH) → (answer ≡ None → old.count < VISIT_LIMIT)
      → (new : Pass) → new.count ≡ old.count + 1
      → left source words new ≡ steps_from source words known (old.count + 1) (flat_map (visits source known old.origin (MACRO_DEPTH - length old.outer.items - 1))
      (unwrap_or (option_map (body_words words) used) []) ++ pending source words known old.origin old.outer.items next) old.at
      → (observed : Visited) × (observed.is_use ≡ is_some used) × ◌≡◌ {A = Expanded} (record { text = word.span; origin = old.origin }) (record { text = observed.text; origin = observed.origin }) × Visits source words old new observed
  unfolding left
  sound is roomy few new count rest =
      let step = steps-inside source words known old.origin old.outer.items old.body next word old.count old.at first (option_map (body_words words) used) named (λ some. roomy is (grind arith)) in (
        observed,
        is_use,
        refl,
        record { continues = rw rest (continues-along _ _ _ _ step (sym (validated observed is_use refl) ∙ is)); count = count; bound = omega (arith, few is) },
      )

pub returns-in-Some : goal.returns-in-Some
returns-in-Some c = (
  rw c.new.ensures
      (refused c.args.source.now c.args.words.now c.args.self.now c.args.word _ _ c.requires.first c.text.ensures c.body_named-used.ensures _ c.visit_fault.ensures.kind
      c.in-Some.kind c.in-Some.is),
  record { continues = continues-same _ _ refl; count = refl },
)

pub returns-in-Some-used : goal.returns-in-Some-used
unfolding left
returns-in-Some-used c =
    let s = c.args.self.now in
    let known = known_macros c.args.words.now s.macros.entries in
    let around = pending-push c.args.source.now c.args.words.now known s.origin c.push.new.self.items s.outer.items c.in-Some-used.body _ c.push.ensures.items in
    let step = sound c.args.source.now c.args.words.now s c.args.word _ _ c.requires.first c.text.ensures c.body_named-used.ensures _ c.visit_fault.ensures.kind
    c.in_default.is c.visit_fault.ensures.room c.visit_fault.ensures.few _ refl (rw (around, c.in-Some-used.is) refl) in
    (inr (step.0, step.1 ∙ ap is_some c.in-Some-used.is, step.3), omega (arith, c.push.ensures.len, c.visit_fault.ensures.few c.in_default.is))

pub returns-in-None : goal.returns-in-None
unfolding left
returns-in-None c =
    let step = sound c.args.source.now c.args.words.now c.args.self.now c.args.word _ _ c.requires.first c.text.ensures c.body_named-used.ensures _ c.visit_fault.ensures.kind
    c.in_default.is c.visit_fault.ensures.room c.visit_fault.ensures.few _ refl (rw c.in-None.is refl) in
    (step.0, step.1 ∙ ap is_some c.in-None.is, step.2, step.3)
