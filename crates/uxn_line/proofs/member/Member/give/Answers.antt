use Rattle.uxn_line.proofs.Common.{sym, ◌∙◌, arith, turn}
use Rattle.uxn_line.proofs.MachineTurns.{turn-given}
use Rattle.uxn_line.proofs.member.Member.give.Goals as goal

pub returns : goal.returns
returns c = record {
  stands = λ now pending_inputs member are for_console last goes_on.
      let is = (turn-given c.args.budget now c.args.pending_input pending_inputs (sym member.stands.left ∙ c.requires) are goes_on for_console).0 in
      c.settle.ensures.stands (turn c.args.budget now) (c.give.ensures.stands now pending_inputs member.stands are for_console goes_on)
      (λ all. is ∙ last.0 all, λ none. last.1 (sym is ∙ none));
  ring = c.settle.ensures.ring;
  most = omega (arith, c.settle.ensures.left, c.give.ensures.left);
  given = c.settle.ensures.given;
}
