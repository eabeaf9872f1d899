use Rattle.uxn_cli.proofs.Clauses.Works.Changes.Names.{◌≡◌, false, length, LineGoesOn}
use Rattle.uxn_cli.proofs.joining.follow.Given as goal

abbrev pub invariant-loop-turns : goal.invariant-loop-turns
invariant-loop-turns g l = record {
  way : LineGoesOn l.fn.line (g.O.Sink.state l.fn.out) l.line (g.O.Sink.state l.out) false;
  machines : length l.line.members.items ≡ length l.fn.line.members.items;
}

abbrev pub invariant-loop : goal.invariant-loop
invariant-loop g l = record {
  way : LineGoesOn l.fn.line (g.O.Sink.state l.fn.out) l.line (g.O.Sink.state l.out) false;
  machines : length l.line.members.items ≡ length l.fn.line.members.items;
}
