use Rattle.uxn_cli.proofs.Clauses.{Ok, Err, comes_out}
use Rattle.uxn_cli.proofs.entry.status_of.Goals as goal

pub returns-in-Ok-clause-comes : goal.returns-in-Ok-clause-comes
returns-in-Ok-clause-comes g c = comes_out _ _ _ (Ok _) c.in-Ok.ensures.does

pub returns-in-Err-clause-comes : goal.returns-in-Err-clause-comes
returns-in-Err-clause-comes g c = rw c.early_status.ensures (comes_out _ _ _ (Err c.in-Err.stop) c.in-Err.ensures.does)

pub returns-in-Err-clause-refusals : goal.returns-in-Err-clause-refusals
returns-in-Err-clause-refusals g c = rw c.early_status.ensures c.in-Err.ensures.does.refusals
