use Rattle.uxn_io_host.proofs.Counting.{call_ended}
use Rattle.uxn_io_host.proofs.folder.CurrentFolderTree.append.Goals as goal

pub returns-clause-ended : goal.returns-clause-ended
returns-clause-ended g c = call_ended _ c.append_some.result _ _ _ _ c.append_some.ensures.counted
