-- Laws of calls that ask a tree, one after the other.
use Rattle.std.specs.Prelude.{◌≡◌, ℕ, ◌+◌, ◌<◌, ◌≤◌, drop, length, true, false, List, [], ◌∷◌, ◌++◌, Result, Ok, Err}
use Rattle.std.proofs.Common.{ap, subst, get_or}
use Rattle.std.proofs.lemmas.List.{drop_all, drop_more}
use Rattle.uxn_io_traits.specs.Ended.{TreeLooked}
use Rattle.uxn_io_traits.specs.State.{TreeState}
use Rattle.uxn_io_traits.specs.declared.halt.Halt.{Halt}
use Rattle.uxn_io_traits.specs.declared.halt.Halt.TheVariants.{Refused, TreeFault, NoMemory}
use Rattle.uxn_io_traits.specs.Inquiry.{Inquiry, Answer, unless_refused, and_then, through, gather, result_as, refused_as}
use Rattle.uxn_io_traits.specs.Leads.{Leads, Here}
use Rattle.uxn_io_traits.specs.LeadsLaws.{leads-then, leads-bind, leads-looked, leads-always, stops-looked, stops-bind, stops-then, stops-here}
use Rattle.uxn_io_traits.specs.Inquires.{Inquires, IfAnswered, Says, halted_as, tree_failed}
use Rattle.uxn_io_traits.specs.Along.{Always}

-- ---- what a call that asks says of the tree, and of its answer

module _ {A B E : Type 0} (view : B → A) (inquiry : Inquiry (Result A E)) (a b : TreeState) where
  -- the tree was only looked at
  pub inquires-looked : (r : Result B (Halt E)) → Inquires view inquiry a b r → TreeLooked (tree_failed r) a b
  inquires-looked (Ok value) p = leads-looked (Answer (Ok (view value))) b inquiry a p.answers
  inquires-looked (Err (Refused refusal)) p = leads-looked (Answer (Err refusal)) b inquiry a p.answers
  inquires-looked (Err TreeFault) p = stops-looked true inquiry a b p.answers
  inquires-looked (Err NoMemory) p = stops-looked false inquiry a b p.answers

  -- what always holds of the answer holds of it, whatever the tree
  pub always-answers : (P : Result A E → Type 0) (r : Result B (Halt E)) → Always P inquiry → Inquires view inquiry a b r
      → IfAnswered view P r
  always-answers P (Ok value) holds p = leads-always (Answer (Ok (view value))) b P inquiry a holds p.answers
  always-answers P (Err (Refused refusal)) holds p = leads-always (Answer (Err refusal)) b P inquiry a holds p.answers
  always-answers P (Err TreeFault) holds p = tt
  always-answers P (Err NoMemory) holds p = tt

-- ---- one call after the other

-- a step that asks nothing
pub inquires-said : {A B E : Type 0} (view : B → A) (said : Result A E) (now : TreeState) (r : Result B (Halt E))
    → Says view said r
    → Inquires view (Answer said) now now r
inquires-said view said now (Ok value) is = record { answers = subst (λ to. Leads (Answer said) (Answer to) now now) is Here }
inquires-said view said now (Err (Refused refusal)) is =
    record { answers = subst (λ to. Leads (Answer said) (Answer to) now now) is Here }
inquires-said view said now (Err TreeFault) is = absurd is
inquires-said view said now (Err NoMemory) is = record { answers = stops-here (Answer said) now }

-- a call that stopped or was refused ends all that was to be asked behind it
pub inquires-stop : {A B C D E : Type 0} (view : C → A) (last : D → B) (inquiry : Inquiry (Result A E))
    (next : A → Inquiry (Result B E))
    (a b : TreeState) (halt : Halt E) → Inquires view inquiry a b (Err halt)
    → Inquires last (and_then inquiry next) a b (Err halt)
inquires-stop view last inquiry next a b (Refused refusal) p =
    record { answers = leads-bind (Answer (Err refusal)) b (unless_refused next) inquiry a p.answers }
inquires-stop view last inquiry next a b TreeFault p =
    record { answers = stops-bind _ inquiry a b (unless_refused next) p.answers }
inquires-stop view last inquiry next a b NoMemory p =
    record { answers = stops-bind _ inquiry a b (unless_refused next) p.answers }

-- a call that hands on what another answered
pub inquires-ok : {A B D E : Type 0} (view : B → A) (last : D → A) (inquiry : Inquiry (Result A E)) (a b : TreeState) (value : B)
    (found : D)
    → view value ≡ last found → Inquires view inquiry a b (Ok value) → Inquires last inquiry a b (Ok found)
inquires-ok view last inquiry a b value found is p =
    record { answers = subst (λ answer. Leads inquiry (Answer (Ok answer)) a b) is p.answers }

pub inquires-halt : {A B D E : Type 0} (view : B → A) (last : D → A) (inquiry : Inquiry (Result A E)) (a b : TreeState)
    (halt : Halt E)
    → Inquires view inquiry a b (Err halt) → Inquires last inquiry a b (Err halt)
inquires-halt view last inquiry a b (Refused refusal) p = record { answers = p.answers }
inquires-halt view last inquiry a b TreeFault p = record { answers = p.answers }
inquires-halt view last inquiry a b NoMemory p = record { answers = p.answers }

-- nothing was asked yet
pub leads-start : {A : Type 0} (whole : Inquiry A) (now : TreeState) → Leads whole whole now now
leads-start whole now = Here

-- one call more answered
pub leads-more : {A B C E : Type 0} (view : C → A) (whole : Inquiry (Result B E)) (inquiry : Inquiry (Result A E))
    (next : A → Inquiry (Result B E)) (a b c : TreeState) (value : C) → Leads whole (and_then inquiry next) a b
    → Inquires view inquiry b c (Ok value)
    → Leads whole (next (view value)) a c
leads-more view whole inquiry next a b c value p q =
    leads-then (and_then inquiry next) b (next (view value)) c whole a p
    (leads-bind (Answer (Ok (view value))) c (unless_refused next) inquiry b q.answers)

-- the last one ends the whole
pub leads-end : {A B E : Type 0} (view : B → A) (whole rest : Inquiry (Result A E)) (a b c : TreeState) (r : Result B (Halt E))
    → Leads whole rest a b → Inquires view rest b c r → Inquires view whole a c r
leads-end view whole rest a b c (Ok value) p q =
    record { answers = leads-then rest b (Answer (Ok (view value))) c whole a p q.answers }
leads-end view whole rest a b c (Err (Refused refusal)) p q =
    record { answers = leads-then rest b (Answer (Err refusal)) c whole a p q.answers }
leads-end view whole rest a b c (Err TreeFault) p q = record { answers = stops-then _ rest b c whole a p q.answers }
leads-end view whole rest a b c (Err NoMemory) p q = record { answers = stops-then _ rest b c whole a p q.answers }

-- it answers by what is said of the last, or it stopped at it
pub leads-said : {A B E : Type 0} (view : B → A) (whole : Inquiry (Result A E)) (said : Result A E) (a b : TreeState)
    (r : Result B (Halt E))
    → Leads whole (Answer said) a b → Says view said r → Inquires view whole a b r
leads-said view whole said a b r p is = leads-end view whole (Answer said) a b b r p (inquires-said view said b r is)

pub leads-stop : {A B C D E : Type 0} (view : C → A) (last : D → B) (whole : Inquiry (Result B E))
    (inquiry : Inquiry (Result A E))
    (next : A → Inquiry (Result B E)) (a b c : TreeState) (halt : Halt E) → Leads whole (and_then inquiry next) a b
    → Inquires view inquiry b c (Err halt) → Inquires last whole a c (Err halt)
leads-stop view last whole inquiry next a b c halt p q =
    leads-end last whole (and_then inquiry next) a b c (Err halt) p (inquires-stop view last inquiry next b c halt q)

-- the same of a step that asks nothing; memory may run out anywhere
pub leads-step : {A B E : Type 0} (whole : Inquiry (Result B E)) (said : Result A E) (next : A → Inquiry (Result B E))
    (a b : TreeState)
    (value : A) → Leads whole (and_then (Answer said) next) a b → said ≡ Ok value → Leads whole (next value) a b
leads-step whole said next a b value p is = subst (λ to. Leads whole (unless_refused next to) a b) is p

pub leads-refused : {A B C D E : Type 0} (view : C → A) (last : D → B) (whole : Inquiry (Result B E)) (said : Result A E)
    (next : A → Inquiry (Result B E)) (a b : TreeState) (halt : Halt E) → Leads whole (and_then (Answer said) next) a b
    → Says view said (Err halt) → Inquires last whole a b (Err halt)
leads-refused view last whole said next a b halt p is =
    leads-stop view last whole (Answer said) next a b b halt p (inquires-said view said b (Err halt) is)

pub leads-no-memory : {B D E : Type 0} (last : D → B) (whole rest : Inquiry (Result B E)) (a b : TreeState) → Leads whole rest a b
    → Inquires last whole a b (Err NoMemory)
leads-no-memory last whole rest a b p = record { answers = stops-then false rest b b whole a p (stops-here rest b) }

pub inquires-no-memory : {A B D E : Type 0} (view : B → A) (last : D → A) (inquiry : Inquiry (Result A E)) (a b : TreeState)
    (refusal : E)
    → Inquires view inquiry a b (Err (Refused refusal)) → Inquires last inquiry a b (Err NoMemory)
inquires-no-memory view last inquiry a b refusal p = leads-no-memory last inquiry (Answer (Err refusal)) a b p.answers

-- what is asked behind a call that answered
pub inquires-more : {A B C D E : Type 0} (view : C → A) (last : D → B) (inquiry : Inquiry (Result A E))
    (next : A → Inquiry (Result B E))
    (a b c : TreeState) (value : C) (r : Result D (Halt E)) → Inquires view inquiry a b (Ok value)
    → Inquires last (next (view value)) b c r
    → Inquires last (and_then inquiry next) a c r
inquires-more view last inquiry next a b c value r p q =
    leads-end last (and_then inquiry next) (next (view value)) a b c r
    (leads-more view (and_then inquiry next) inquiry next a a b value Here p) q

-- and nothing is asked behind it
pub inquires-last : {A B C D E : Type 0} (view : C → A) (last : D → B) (inquiry : Inquiry (Result A E)) (next : A → Result B E)
    (a b : TreeState) (value : C) (r : Result D (Halt E)) → Inquires view inquiry a b (Ok value) → Says last (next (view value)) r
    → Inquires last (and_then inquiry (λ x. Answer (next x))) a b r
inquires-last view last inquiry next a b value r p is =
    inquires-more view last inquiry (λ x. Answer (next x)) a b b value r p (inquires-said last (next (view value)) b r is)

-- ---- step after step through a list, in a loop over its index
module _ {A P E : Type 0} (step : P → A → Inquiry (Result A E)) (whole : Inquiry (Result A E)) (items : List P) (i : ℕ)
    (now : A) (a b : TreeState) (p : Leads whole (through step (drop i items) now) a b) where
  -- a step was refused, or stopped
  pub through-stop : {C D : Type 0} (view : C → A) (last : D → A) (first default : P) (c : TreeState) (halt : Halt E)
      → i < length items
      → first ≡ get_or items i default → Inquires view (step first now) b c (Err halt) → Inquires last whole a c (Err halt)
  through-stop view last first default c halt less is q =
      let left = drop_more items i default less in
      let rest = rw (left, ← is) at p in
      leads-stop view last whole (step first now) (through step (drop (i + 1) items)) a b c halt rest q

  -- one step more
  pub through-more : {C : Type 0} (view : C → A) (first default : P) (c : TreeState) (value : C) → i < length items
      → first ≡ get_or items i default
      → Inquires view (step first now) b c (Ok value) → Leads whole (through step (drop (i + 1) items) (view value)) a c
  through-more view first default c value less is q =
      let left = drop_more items i default less in
      let rest = rw (left, ← is) at p in
      leads-more view whole (step first now) (through step (drop (i + 1) items)) a b c value rest q

  -- all steps
  pub through-end : {D : Type 0} (last : D → A) (value : D) → length items ≤ i → now ≡ last value
      → Inquires last whole a b (Ok value)
  through-end last value all is =
      let none = drop_all i items all in
      leads-said last whole (Ok now) a b (Ok value) (rw none at p) (ap (λ all. Ok all) is)

-- ---- one inquiry for each of a list, in a loop over its index
module _ {A P E : Type 0} (ask : P → Inquiry (Result A E)) (whole : Inquiry (Result (List A) E)) (paths : List P) (i : ℕ)
    (done : List A) (a b : TreeState) (p : Leads whole (gather ask done (drop i paths)) a b) where
  -- one of them was refused, or stopped
  pub gather-stop : {C D : Type 0} (view : C → A) (last : D → List A) (first : P) (c : TreeState) (halt : Halt E)
      → i < length paths
      → first ≡ get_or paths i first → Inquires view (ask first) b c (Err halt) → Inquires last whole a c (Err halt)
  gather-stop view last first c halt less is q =
      let left = drop_more paths i first less in
      let rest = rw (left, ← is) at p in
      leads-stop view last whole (ask first) (λ value. gather ask (done ++ value ∷ []) (drop (i + 1) paths)) a b c halt rest q

  -- one more answered
  pub gather-more : {C : Type 0} (view : C → A) (first : P) (c : TreeState) (value : C) (found : List A) → i < length paths
      → first ≡ get_or paths i first → found ≡ done ++ view value ∷ [] → Inquires view (ask first) b c (Ok value)
      → Leads whole (gather ask found (drop (i + 1) paths)) a c
  gather-more view first c value found less is all q =
      let left = drop_more paths i first less in
      let rest = rw (left, ← is) at p in
      rw all (leads-more view whole (ask first) (λ value. gather ask (done ++ value ∷ []) (drop (i + 1) paths)) a b c value rest q)

  -- all of them answered
  pub gather-end : {D : Type 0} (last : D → List A) (found : D) → length paths ≤ i → done ≡ last found
      → Inquires last whole a b (Ok found)
  gather-end last found all is =
      let none = drop_all i paths all in leads-said last whole (Ok done) a b (Ok found) (rw none at p) (ap (λ all. Ok all) is)

-- ---- a call that hands on other refusals
pub inquires-as : {A B E F : Type 0} (why : E → F) (view : B → A) (inquiry : Inquiry (Result A E)) (a b : TreeState)
    (r : Result B (Halt E))
    → Inquires view inquiry a b r → Inquires view (refused_as why inquiry) a b (halted_as why r)
inquires-as why view inquiry a b (Ok value) p =
    record { answers = leads-bind (Answer (Ok (view value))) b (λ said. Answer (result_as why said)) inquiry a p.answers }
inquires-as why view inquiry a b (Err (Refused refusal)) p =
    record { answers = leads-bind (Answer (Err refusal)) b (λ said. Answer (result_as why said)) inquiry a p.answers }
inquires-as why view inquiry a b (Err TreeFault) p =
    record { answers = stops-bind _ inquiry a b (λ said. Answer (result_as why said)) p.answers }
inquires-as why view inquiry a b (Err NoMemory) p =
    record { answers = stops-bind _ inquiry a b (λ said. Answer (result_as why said)) p.answers }
