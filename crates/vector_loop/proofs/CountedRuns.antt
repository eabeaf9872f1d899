-- A run counts its moments.
use Rattle.vector_loop.proofs.Common.{List, Outputs, State, Trace, [], arith, length, length-append, ℕ, ◌++◌, ◌+◌, ◌∷◌, ◌≡◌, rules}
use Rattle.vector_loop.specs.Counted.{AreCounted, CountingLaw, IsCounted}
use Rattle.vector_loop.specs.RunLaws.{HoldsOn, run-holds}

counted-both : (count : ℕ) (first more : List State) → AreCounted count first → AreCounted (count + length first) more
    → AreCounted count (first ++ more)
counted-both count [] more one two = let none : count + 0 ≡ count = omega arith in rw none at two
counted-both count (state ∷ first) more one two = search (arith, rules, counted-both (count + 1) first)

recounted : (count other : ℕ) (trace : Trace) → count ≡ other → IsCounted count trace → IsCounted other trace
recounted count other trace same counted = rw (← same) counted

part-counts : (outputs : Outputs) → HoldsOn outputs (λ state part. IsCounted state.tally.instructions part)
part-counts = search (arith, rules, counted-both, length-append, recounted)

pub run-counts : CountingLaw
run-counts budget outputs script state =
    run-holds outputs (λ state part. IsCounted state.tally.instructions part) (part-counts outputs) budget script state
