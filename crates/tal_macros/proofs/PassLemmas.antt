-- One step of a pass.
use Rattle.std.specs.Prelude.{slice_get}
use Rattle.tal_macros.proofs.Common.{◌≡◌, ℕ, zero, suc, ◌+◌, ◌-◌, ◌<◌, ◌≤◌, true, false, List, [], ◌∷◌, ◌++◌, length, drop, Option, Some, None}
use Rattle.tal_macros.proofs.Common.{is_some, refl, ap, arith, append_assoc, append-nil, length-append, unwrap_or, flat_map, option_to_list, drop_all}
use Rattle.tal_macros.proofs.Common.{Word, FaultKind, begins, word_text, Validated, fault_at, Body, MACRO_DEPTH, Macro, Visited, body_named}
use Rattle.tal_macros.proofs.Common.{parts_from, visit_kinds, visited, visits, body_words, word_at, ExpansionStep, reached, Continues, RefusesInSteps}
use Rattle.tal_macros.proofs.Common.{fault_of, rest, open_visits, steps_from}
use Rattle.tal_macros.proofs.Known.{drop-word}

-- steps that begin with one that has no fault, or with one that has
pub continues-along : (validated : Validated) (visit : Option Visited) (old new : List ExpansionStep) → old ≡ record { validated = validated; visit = visit } ∷ new
    → slice_get validated.kinds 0 ≡ None → Continues old new (option_to_list visit)
continues-along validated visit old new parts none = record { visits = rw (parts, none) refl; faults = rw (parts, none) refl }

pub refuses-at : (validated : Validated) (visit : Option Visited) (old new : List ExpansionStep) (kind : FaultKind) → old ≡ record { validated = validated; visit = visit } ∷ new
    → slice_get validated.kinds 0 ≡ Some kind → RefusesInSteps old (fault_at validated.origin kind)
refuses-at validated visit old new kind parts some = record { visits = rw (parts, some) refl; faulty = rw (parts, some) refl }

pub continues-same : (old new : List ExpansionStep) → old ≡ new → Continues old new []
continues-same old new same = record { visits = ap reached same; faults = ap fault_of same }

module _ (source : List ℕ) (words : List Word) (known : List Macro) (origin : Word) where
  -- the visits of a word begin with the word, and go on with those of its body
  visits-first : (room : ℕ) (word : Word) → (inner : List Visited) × (visits source known origin room word ≡ visited source known origin room word ∷ inner)
  unfolding visits
  visits-first zero word = ([], refl)
  visits-first (suc room) word = (_, refl)

  visits-inside : (room : ℕ) (word : Word) (used : Option (List Word)) → body_named known (word_text source word) ≡ used → (is_some used ≡ true → 0 < room)
      → visits source known origin room word ≡ visited source known origin room word ∷ flat_map (visits source known origin (room - 1)) (unwrap_or used [])
  unfolding visits
  visits-inside zero word None named roomy = refl
  visits-inside zero word (Some body) named roomy = absurd (omega (arith, roomy refl))
  visits-inside (suc room) word used named roomy = let one : suc room - 1 ≡ room = omega arith in rw (one, named) refl

  -- the first of the words that are visited
  steps-first : (count at : ℕ) (word : Visited) (pending : List Visited)
      → steps_from source words known count (word ∷ pending) at
      ≡ record { validated = record { origin = word.origin; kinds = visit_kinds count word }; visit = Some word } ∷ steps_from source words known (count + 1) pending at
  steps-first count at word pending = let same : count + suc (length pending) ≡ count + 1 + length pending = omega arith in rw same refl

  -- a use that is opened leaves the rest of the body around it
  open_visits-push : (room : ℕ) (bodies : List Body) (body : Body) → open_visits source words known origin room (bodies ++ body ∷ [])
      ≡ flat_map (visits source known origin (room - length bodies)) (body_words words body) ++ open_visits source words known origin room bodies
  open_visits-push room [] body = let same : room - 0 ≡ room = omega arith in rw (same, append-nil (flat_map (visits source known origin room) (body_words words body))) refl
  open_visits-push room (outer ∷ bodies) body =
      let same : room - 1 - length bodies ≡ room - suc (length bodies) = omega arith in
      rw (open_visits-push (room - 1) bodies body, append_assoc, same) refl

  -- what is visited for the rest of a body and behind it
  abbrev pub pending : List Body → Body → List Visited
  pending bodies body =
      flat_map (visits source known origin (MACRO_DEPTH - length bodies)) (body_words words body) ++ open_visits source words known origin MACRO_DEPTH bodies

  -- behind the words of a body those around its use go on
  pub pending-push : (old bodies : List Body) (body outer : Body) → old ≡ bodies ++ outer ∷ []
      → pending old body ≡ flat_map (visits source known origin (MACRO_DEPTH - length bodies - 1)) (body_words words body) ++ pending bodies outer
  pending-push old bodies body outer parts =
      let room : MACRO_DEPTH - length (bodies ++ outer ∷ []) ≡ MACRO_DEPTH - length bodies - 1 = omega (arith, length-append bodies (outer ∷ [])) in
      rw (parts, room, open_visits-push) refl

  -- the first word of a body
  module _ (bodies : List Body) (body next : Body) (word : Word) (count at : ℕ) (first : body_words words body ≡ word ∷ body_words words next) where
    abbrev pub here : Visited
    here = visited source known origin (MACRO_DEPTH - length bodies) word

    pub steps-word : (more : List ExpansionStep) × (steps_from source words known count (pending bodies body) at
        ≡ record { validated = record { origin = origin; kinds = visit_kinds count here }; visit = Some here } ∷ more)
    steps-word =
        let inner = visits-first (MACRO_DEPTH - length bodies) word in (
          steps_from source words known (count + 1)
              ((inner.0 ++ flat_map (visits source known origin (MACRO_DEPTH - length bodies)) (body_words words next)) ++ open_visits source words known origin MACRO_DEPTH bodies) at,
          rw (first, inner.1) (steps-first count at here _),
        )

    pub steps-inside : (used : Option (List Word)) → body_named known (word_text source word) ≡ used → (is_some used ≡ true → length bodies < MACRO_DEPTH)
        → steps_from source words known count (pending bodies body) at
        ≡ record { validated = record { origin = origin; kinds = visit_kinds count here }; visit = Some here }
        ∷ steps_from source words known (count + 1) (flat_map (visits source known origin (MACRO_DEPTH - length bodies - 1)) (unwrap_or used []) ++ pending bodies next) at
    steps-inside used named roomy =
        let inner = flat_map (visits source known origin (MACRO_DEPTH - length bodies - 1)) (unwrap_or used []) in
        let behind = flat_map (visits source known origin (MACRO_DEPTH - length bodies)) (body_words words next) in
        rw (first, visits-inside (MACRO_DEPTH - length bodies) word used named (λ some. omega (arith, roomy some)))
        (rw (append_assoc inner behind (open_visits source words known origin MACRO_DEPTH bodies)) (steps-first count at here _))

module _ (source : List ℕ) (words : List Word) (known : List Macro) (count at : ℕ) where
  -- the words of the source from an index on
  pub steps-end : length words ≤ at → steps_from source words known count [] at ≡ []
  unfolding rest
  steps-end past = rw (drop_all at words past) refl

  pub steps-source : at < length words → begins 37 (word_text source (word_at words at)) ≡ false
      → steps_from source words known count [] at
      ≡ steps_from source words known count (pending source words known (word_at words at) [] (record { from = at; to = at + 1 })) (at + 1)
  unfolding rest
  steps-source within plain =
      let none : count + 0 ≡ count = omega arith in
      let one : at + 1 - at ≡ 1 = omega arith in
      let alone = append-nil (visits source known (word_at words at) MACRO_DEPTH (word_at words at)) in
      rw (none, drop-word words at within, plain, one, alone, alone) refl

  -- steps where nothing is visited before the words of the source
  pub left-nothing : steps_from source words known count [] at ≡ rest source known count (parts_from source 0 (drop at words))
  left-nothing = let none : count + 0 ≡ count = omega arith in rw none refl
