-- What is not listed later is not listed now.
use Rattle.std.proofs.lemmas.Grind.{common_steps}
use Rattle.std.proofs.Common.{◌≡◌, ℕ, ◌+◌, ◌<◌, ◌≤◌, Bool, true, false, ◌&&◌, eqb, List, [], ◌∷◌, length, refl, arith}
use Rattle.std.specs.Prelude.{nat_le}
use Rattle.std.specs.List.{list_any}
use Rattle.std.proofs.lemmas.Bool.Decides.{nat_tests}
use Rattle.uxn_io.specs.declared.memory.trees.TreeCall.{TreeCall}
use Rattle.uxn_io.specs.InMemory.Trees.{TreeInMemory, Calls, call_number, same_call, is_listed, is_listed_later}
use Rattle.uxn_io.specs.InMemory.Sinks.{SinkInMemory, guaranteed_of, fails_at}

-- where a test is weaker and passes nowhere, the stronger passes nowhere
pub any_less : {X : Type 0} (p q : X → Bool) → ((x : X) → p x ≡ true → q x ≡ true) → (xs : List X) → list_any q xs ≡ false → list_any p xs ≡ false
any_less p q weaker [] none = refl
any_less p q weaker (x ∷ xs) none = grind (arith, weaker x, any_less p q weaker xs)

at_least : (calls n : ℕ) → eqb n calls ≡ true → nat_le calls n ≡ true
at_least calls n e = grind (arith, nat_tests)

-- a sink that guarantees more than the piece does not fail
pub sink_is_guaranteed : (sink : SinkInMemory) (piece : List ℕ) → fails_at sink piece ≡ true → length piece < guaranteed_of sink → ⊥
sink_is_guaranteed sink piece fails guaranteed = grind (arith, common_steps, any_less, at_least, eqb)

-- what it guarantees is less by what it took
pub sink_stays_guaranteed : (sink new : SinkInMemory) (count : ℕ) → sink.calls ≤ new.calls → new.fails ≡ sink.fails → new.room ≡ sink.room
    → length new.taken ≤ length sink.taken + count → guaranteed_of sink ≤ guaranteed_of new + count
sink_stays_guaranteed sink new count later fails room taken = grind (arith, common_steps, any_less)

not_before : (call : TreeCall) (calls : Calls) (e : TreeCall × ℕ) → (same_call e.0 call && eqb e.1 (call_number call calls)) ≡ true
    → nat_le (call_number e.0 calls) e.1 ≡ true
not_before call calls e is = grind (arith, common_steps)

-- a call that is not listed later is not listed now
pub not_listed_now : (tree : TreeInMemory) (call : TreeCall) → is_listed_later tree ≡ false → is_listed tree call ≡ false
not_listed_now tree call = grind (arith, common_steps, any_less, eqb, not_before)

-- and not listed later still
pub not_listed_later : (fails : List (TreeCall × ℕ)) (calls new : Calls) → ((other : TreeCall) → call_number other calls ≤ call_number other new)
    → list_any (λ e. nat_le (call_number e.0 calls) e.1) fails ≡ false → list_any (λ e. nat_le (call_number e.0 new) e.1) fails ≡ false
not_listed_later fails calls new later = grind (arith, common_steps, any_less)
