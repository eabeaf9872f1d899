use Rattle.uxn_io_host.proofs.Counting.{fault_ended}
use Rattle.uxn_io_host.proofs.folder.CurrentFolderTree.create.Goals as goal

pub returns-in_err-made-clause-ended : goal.returns-in_err-made-clause-ended
returns-in_err-made-clause-ended g c = rw c.from_residual.ensures.0 (fault_ended _ _ _ _ _ c.in_err-made.ensures.counted)
