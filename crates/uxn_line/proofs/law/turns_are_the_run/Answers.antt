use Rattle.uxn_line.proofs.Turning.{follows}
use Rattle.uxn_line.proofs.law.turns_are_the_run.Goals as goal

pub returns : goal.returns
returns c = follows
