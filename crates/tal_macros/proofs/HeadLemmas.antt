-- The faults of a head, and how the expansion goes on behind it.
use Rattle.std.specs.Prelude.{slice_get}
use Rattle.tal_macros.proofs.Common.{◌≡◌, ℕ, zero, suc, ◌+◌, ◌-◌, ◌<◌, true, List, [], ◌∷◌, ◌++◌, length, take, drop, Option, Some, None, refl}
use Rattle.tal_macros.proofs.Common.{ap, sym, ◌∙◌, arith, find, drop-drop, length-take, length-drop, Word, FaultKind}
use Rattle.tal_macros.proofs.Common.{fault_at, word_text, Body, Macro, Head, body_after, head_faults, head_length, parts_from}
use Rattle.tal_macros.proofs.Common.{body_words, word_at, Continues, RefusesInSteps, rest, is_head, IsBody}
use Rattle.tal_words.specs.declared.fault.FaultKind.TheVariants.{MacroBody}
use Rattle.tal_macros.proofs.Known.{drop-word}
use Rattle.tal_macros.proofs.PassLemmas.{continues-along, refuses-at}

module _ (source : List ℕ) (known : List Macro) (count : ℕ) where
  -- the words of a body and its braces, where none of them begins a head, and where one does
  inside-continues : (inside : ℕ) (words : List Word) → find (is_head source) (take inside words) ≡ None
      → Continues (rest source known count (parts_from source inside words)) (rest source known count (parts_from source 0 (drop inside words))) []
  unfolding rest
  inside-continues zero words none = record { visits = refl; faults = refl }
  inside-continues (suc inside) [] none = record { visits = refl; faults = refl }
  inside-continues (suc inside) (word ∷ words) none = grind (arith, inside-continues inside words)

  inside-refuses : (inside : ℕ) (words : List Word) (nested : Word) → find (is_head source) (take inside words) ≡ Some nested
      → RefusesInSteps (rest source known count (parts_from source inside words)) (fault_at nested MacroBody)
  unfolding rest
  inside-refuses zero words nested found = cc
  inside-refuses (suc inside) [] nested found = cc
  inside-refuses (suc inside) (word ∷ words) nested found = grind (arith, inside-refuses inside words nested)

module _ (source : List ℕ) (words : List Word) (at : ℕ) (known : List Macro) (within : at < length words) (head : is_head source (word_at words at) ≡ true) where
  abbrev word : Word
  word = word_at words at

  abbrev next : List Word
  next = drop (at + 1) words

  head-parts : parts_from source 0 (drop at words) ≡ Head word (body_after source next) ∷ parts_from source (head_length (body_after source next)) next
  head-parts = rw (drop-word words at within, head) refl

  -- a head with a fault
  pub head-refuses : (kind : FaultKind) → slice_get (head_faults source word known (body_after source next)) 0 ≡ Some kind → (count : ℕ)
      → RefusesInSteps (rest source known count (parts_from source 0 (drop at words))) (fault_at word kind)
  unfolding rest
  head-refuses kind some count =
      refuses-at (record { origin = word; kinds = head_faults source word known (body_after source next) }) None _ _ kind (ap (rest source known count) head-parts) some

  -- a head without one, and the words of its body
  module _ (body : Body) (nested : Option Word) (is_body : IsBody source words (at + 1) body nested)
      (faultless : head_faults source word known (Some (body_words words body)) ≡ []) (count : ℕ) where
    abbrev after : List Macro
    after = known ++ record { name = drop 1 (word_text source word); body = body_words words body } ∷ []

    abbrev inside : ℕ
    inside = body.to + 1 - (at + 1)

    into_body : Continues (rest source known count (parts_from source 0 (drop at words))) (rest source after count (parts_from source inside next)) []
    unfolding rest
    into_body =
        let size : length (body_words words body) + 2 ≡ inside =
        omega (arith, is_body.from, is_body.ordered, is_body.within, length-take (body.to - body.from) (drop body.from words), length-drop body.from words) in
        continues-along (record { origin = word; kinds = head_faults source word known (Some (body_words words body)) }) None _ _
        (ap (rest source known count) head-parts ∙ rw (is_body.closed, size) refl) (ap (λ kinds. slice_get kinds 0) faultless)

    pub head-continues : nested ≡ None → Continues (rest source known count (parts_from source 0 (drop at words))) (rest source after count (parts_from source 0 (drop (body.to + 1) words))) []
    head-continues none =
        let behind : drop inside next ≡ drop (body.to + 1) words =
        drop-drop inside (at + 1) words ∙ ap (λ n. drop n words) (omega (arith, is_body.from, is_body.ordered)) in
        let further = inside-continues source after count inside next (sym is_body.heads ∙ none) in
        rw (← behind) (record { visits = into_body.visits ∙ further.visits; faults = into_body.faults ∙ further.faults })

    pub body-refuses : (inner : Word) → nested ≡ Some inner → RefusesInSteps (rest source known count (parts_from source 0 (drop at words))) (fault_at inner MacroBody)
    body-refuses inner some =
        let stop = inside-refuses source after count inside next inner (sym is_body.heads ∙ some) in
        record { visits = into_body.visits ∙ stop.visits; faulty = into_body.faults ∙ stop.faulty }
