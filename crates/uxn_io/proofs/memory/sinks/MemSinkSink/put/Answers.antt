use Rattle.std.proofs.Common.{◌≡◌, ℕ, Some, List, take, length, ap, refl, arith, length-take-le}
use Rattle.std.proofs.lemmas.Bool.{false≢true}
use Rattle.std.proofs.lemmas.Grind.{common_steps}
use Rattle.uxn_io_traits.specs.FaultLaws.{counted-same, counted-one}
use Rattle.uxn_io.proofs.InMemory.GuaranteedLemmas.{sink_is_guaranteed, sink_stays_guaranteed}
use Rattle.uxn_io.proofs.memory.sinks.MemSinkSink.put.Goals as goal

pub returns-then-fails-clause-failed : goal.returns-then-fails-clause-failed
returns-then-fails-clause-failed c = grind (arith, common_steps, counted-one, sink_is_guaranteed)

pub returns-clause-taken : goal.returns-clause-taken
returns-clause-taken c =
    let was = c.self.inside in
    let now = c.extend_from_slice.new.self in
    let size : length (take c.min-count.result c.args.piece.now) ≡ c.min-count.result = length-take-le c.min-count.result c.args.piece.now (omega (arith, c.min-count.ensures)) in
    record {
      holds = rw (← c.self.view_is) (ap (λ (z : List ℕ). Some z) (rw c.unwrap.ensures at c.extend_from_slice.ensures.items));
      counted = rw (← c.self.view_is) (counted-same _);
      blamed = λ is. absurd (false≢true is);
      left = λ _.
          rw (size, ← c.self.view_is)
          (sink_stays_guaranteed
          (record { taken = was.taken.items; room = was.room; fails = was.fails.items; calls = was.calls; faults = was.faults })
          (record { taken = now.items; room = was.room; fails = was.fails.items; calls = c.saturating_add-self-inside.result; faults = was.faults })
          c.min-count.result (omega arith) refl refl
          (grind (arith, common_steps, now.ok.0, was.taken.ok.0)));
    }
