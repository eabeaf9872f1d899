use Rattle.uxn_cli.proofs.Clauses.Works.Changes.Names.{inquiry_of, same-answer}
use Rattle.uxn_cli.proofs.laws.a_verdict_depends_on_what_is_asked.Goals as goal

pub returns : goal.returns
returns c = λ requested nodes other agree. same-answer nodes other (inquiry_of requested) agree
