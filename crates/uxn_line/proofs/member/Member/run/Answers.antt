use Rattle.uxn_line.proofs.Common.{sym, ◌∙◌, turn}
use Rattle.uxn_line.proofs.MachineTurns.{run-pending_inputs}
use Rattle.uxn_line.proofs.member.Member.run.Goals as goal

pub returns-clause-ran : goal.returns-clause-ran
returns-clause-ran c = record {
  stands = λ budget now member.
      let is = run-pending_inputs budget c.args.self.now.machine now c.requires member.stands in
      c.settle.ensures.stands (turn budget now) (c.run.ensures.stands budget now member.stands)
      (λ all. is ∙ member.given.0 all, λ none. member.given.1 (sym is ∙ none));
  put = λ budget now member. c.run.ensures.put budget now member.stands;
  ring = c.settle.ensures.ring;
}
