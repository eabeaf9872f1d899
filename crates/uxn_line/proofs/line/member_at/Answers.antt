use Rattle.uxn_line.proofs.NewLines.{begins-in-line}
use Rattle.uxn_line.proofs.line.member_at.Goals as goal

pub returns : goal.returns
returns c =
    begins-in-line c.new.result c.args.script.now c.args.budget c.args.index c.args.rom.now.list _ _ _
    (rw c.as_slice.ensures at c.new.ensures.stands) c.new.ensures.ring c.start_of-all_given.ensures.starts
