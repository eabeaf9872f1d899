use Rattle.uxn_line.proofs.NewLines.{behind-begins}
use Rattle.uxn_line.proofs.line.start_of.Goals as goal

pub returns-clause-starts : goal.returns-clause-starts
returns-clause-starts c job is = behind-begins job c.args.index c.if-index-eq0.false
