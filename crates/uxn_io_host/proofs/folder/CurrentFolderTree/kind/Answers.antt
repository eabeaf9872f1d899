use Rattle.uxn_io_host.proofs.Counting.{call_looked}
use Rattle.uxn_io_host.proofs.folder.CurrentFolderTree.kind.Goals as goal

pub returns-clause-looked : goal.returns-clause-looked
returns-clause-looked g c = call_looked c.look.result _ _ _ _ c.look.ensures.counted c.look.ensures.refused
