-- What a watcher holds after more was shown to it, and the changes at moments after others.
use Rattle.vector_loop.proofs.Common.{Change, Core, List, Page, State, [], ap, arith, false, instruction, page_in, refl, shown_all, sym, true, ℕ}
use Rattle.vector_loop.proofs.Common.{◌++◌, ◌∙◌, ◌∷◌, ◌≡◌, ◌≢◌}
use Rattle.std.proofs.Common.{append_assoc}
use Rattle.std.specs.Prelude.{◌==◌}
use Rattle.std.proofs.lemmas.Bool.Decides.{nat_tests}
use Rattle.vector_loop.specs.declared.watch.Moment.{Moment}
use Rattle.vector_loop.specs.Vector.{AreChangesAt}
use Rattle.vector_loop.specs.Watch.{moment_of}

pub shown_all-append : {H : Type 0} (shown : H → Core → Page → Moment → H) (held : H) (first more : List State)
    → shown_all shown held (first ++ more) ≡ shown_all shown (shown_all shown held first) more
shown_all-append shown held [] more = refl
shown_all-append shown held (state ∷ first) more = shown_all-append shown (shown held state.core (page_in state) (moment_of state)) first more

changes-behind : (states : List State) (first changes : List Change) → AreChangesAt states changes → AreChangesAt states (first ++ changes)
changes-behind [] first changes at = tt
changes-behind (state ∷ states) first changes at =
    let parts = ap (λ c. first ++ c) at.1.1.0 ∙ sym (append_assoc first at.0 ((instruction state).changes ++ at.1.0)) in
    (first ++ at.0, (at.1.0, (parts, at.1.1.1)))

pub changes-append : (states more : List State) (first later : List Change) → AreChangesAt states first → AreChangesAt more later
    → AreChangesAt (states ++ more) (first ++ later)
changes-append [] more first later at then = changes-behind more first later then
changes-append (state ∷ states) more first later at then =
    let here = (instruction state).changes in
    let parts = ap (λ c. c ++ later) at.1.1.0 ∙ append_assoc at.0 (here ++ at.1.0) later ∙ ap (λ c. at.0 ++ c) (append_assoc here at.1.0 later) in
    (at.0, (at.1.0 ++ later, (parts, changes-append states more at.1.0 later at.1.1.1 then)))

-- what a test for 0 tells
pub is_zero : (n : ℕ) → n ≡ 0 → (n == 0) ≡ true
is_zero n h = grind (arith, nat_tests)

pub is_not_zero : (n : ℕ) → n ≢ 0 → (n == 0) ≡ false
is_not_zero n h = grind (arith, nat_tests)
