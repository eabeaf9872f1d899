use Rattle.uxn_line.proofs.Common.{ℕ, ◌<◌, LineReaches, IsStill}
use Rattle.uxn_line.proofs.Ending.{turns_left}
use Rattle.uxn_line.proofs.line.Line.finish.Given as goal

abbrev pub invariant-machines : goal.invariant-machines
invariant-machines g l = record {
  went : LineReaches l.initial.self l.self (g.O.Sink.state l.initial.out) (g.O.Sink.state l.out);
  still : (machine : ℕ) → machine < l.index → IsStill l.self machine;
}

abbrev pub decreases-machines : goal.decreases-machines
decreases-machines g l = turns_left l.self l.index
