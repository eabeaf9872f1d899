use Rattle.uxn_cli.proofs.Clauses.Works.{refusal-does}
use Rattle.uxn_cli.proofs.entry.answer.Goals as goal

pub returns-in-Err-Refused-clause-does : goal.returns-in-Err-Refused-clause-does
returns-in-Err-Refused-clause-does g c =
    refusal-does _ _ _ _ _ _ c.in-Err-Refused.refusal (rw c.in-Err-Refused.field-0-is at c.in-Err-Refused.ensures.does) c.put.result c.put.ensures
