-- A prefix of the piece was put.
use Rattle.std.proofs.Common.{length, take, ◌-◌, ◌≤◌, false}
use Rattle.uxn_io_traits.specs.Ended.{SinkEnded}
use Rattle.uxn_io_traits.proofs.sinks.put_all.Given as goal

abbrev pub invariant-loop-at : goal.invariant-loop-at
invariant-loop-at g l = record {
  within : l.at ≤ length l.piece;
  ended : SinkEnded (take l.at l.piece) false (g.S.Sink.state l.fn.sink) (g.S.Sink.state l.sink);
}

abbrev pub decreases-loop-at : goal.decreases-loop-at
decreases-loop-at g l = length l.piece - l.at
