use Rattle.uxn_io_host.proofs.Counting.{fault_looked}
use Rattle.uxn_io_host.proofs.folder.CurrentFolderTree.read.Goals as goal

pub returns-in_err-taken-clause-looked : goal.returns-in_err-taken-clause-looked
returns-in_err-taken-clause-looked g c =
    rw c.from_residual.ensures.0 (fault_looked _ _ _ _ c.in_err-taken.ensures.counted c.in_err-taken.ensures.refused)
