use Rattle.uxn_line.proofs.Common.{◌≡◌, length, LineReaches, WorksOn, work_left}
use Rattle.uxn_line.proofs.line.Line.move_on.Given as goal

abbrev pub invariant-moves : goal.invariant-moves
invariant-moves g l = record {
  went : LineReaches l.initial.self l.self (g.O.Sink.state l.initial.out) (g.O.Sink.state l.out);
  works : WorksOn l.moved l.initial.self l.self;
  machines : length l.self.members.items ≡ length l.initial.self.members.items;
}

abbrev pub decreases-moves : goal.decreases-moves
decreases-moves g l = work_left l.self
