-- The moments of the reference run are in a row.
use Rattle.std.proofs.Common.{rules}
use Rattle.uxn_undo.proofs.Common.{◌≡◌, ℕ, zero, suc, List, [], ◌∷◌, ◌++◌, take, drop, refl, map, GivenMoments, Follow, IsMachine, arith}
use Rattle.std.proofs.lemmas.List.{map-append}
use mathlib.Core.List.{reverse_aux}
use Rattle.vector_loop.specs.declared.output.Outputs.{Outputs}
use Rattle.vector_loop.specs.State.{State}
use Rattle.vector_loop.specs.Trace.{Trace, followed_by}
use Rattle.vector_loop.specs.RunLaws.{HoldsOn, run-holds}
use Rattle.uxn_undo.specs.Runs.{given_at, memory_next, InRow, RunLaw}
use Rattle.uxn_undo.proofs.Instructions.{instruction_law}

-- moments in a row, and then others that begin with the memory which those end with
record Joined (first more : List GivenMoments) (middle last : List ℕ) : Type 0 where
  row : InRow (first ++ more) last
  begins : memory_next (first ++ more) last ≡ memory_next first middle

in-row-joined : (first more : List GivenMoments) (middle last : List ℕ) → InRow first middle → memory_next more last ≡ middle → InRow more last
    → Joined first more middle last
in-row-joined [] more middle last one same two = record { row = two; begins = same }
in-row-joined (given ∷ first) more middle last one same two = search (arith, rules, in-row-joined first)

-- a part of a run, from a memory on
record RunsOn (memory : List ℕ) (trace : Trace) : Type 0 where
  begins : memory_next (map given_at trace.moments) trace.last.core.memory ≡ memory
  row : InRow (map given_at trace.moments) trace.last.core.memory
  machine : IsMachine trace.last.core

followed : (memory : List ℕ) (first : Trace) (rest : State → Trace) → RunsOn memory first → RunsOn first.last.core.memory (rest first.last)
    → RunsOn memory (followed_by first rest)
followed = search (arith, rules, in-row-joined, map-append)

part-runs : (outputs : Outputs) → HoldsOn outputs (λ state part. IsMachine state.core → RunsOn state.core.memory part)
part-runs outputs = record {
  nothing = λ state is. record { begins = refl; row = tt; machine = is };
  one = λ state is. record {
    begins = refl;
    row = (instruction_law.within state.devices state.core is, tt);
    machine = instruction_law.machine state.devices state.core is;
  };
  frames = λ bytes state is. record { begins = refl; row = tt; machine = is };
  samples = λ bytes state is. record { begins = refl; row = tt; machine = is };
  then = λ state first rest one more is. followed state.core.memory first rest (one is) (more first.last (one is).machine);
  alike = λ before now part alike runs is. rw alike.memory at (runs (record {
    memory = rw alike.memory is.memory;
    working = rw alike.working is.working;
    returns = rw alike.returns is.returns;
  }));
}

-- the first moments follow one another, the newest first, where those before them do
follows_on : (later earlier : List GivenMoments) (last : List ℕ) (count : ℕ) → Follow earlier (memory_next later last) → InRow later last
    → Follow (reverse_aux (take count later) earlier) (memory_next (drop count later) last)
follows_on later earlier last zero follow row = follow
follows_on [] earlier last (suc count) follow row = follow
follows_on (given ∷ later) earlier last (suc count) follow row = search (arith, rules, follows_on later)

pub run_law : RunLaw
run_law = record {
  in_row = λ budget outputs script state is.
      (run-holds outputs (λ state part. IsMachine state.core → RunsOn state.core.memory part) (part-runs outputs) budget script state is).row;
  follow = λ given last count row. follows_on given [] last count tt row;
}
