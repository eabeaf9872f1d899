use Rattle.uxn_io_host.proofs.Counting.{listing_looked}
use Rattle.uxn_io_host.proofs.folder.CurrentFolderTree.names.Goals as goal

pub returns-clause-looked : goal.returns-clause-looked
returns-clause-looked g c = listing_looked c.listed.result _ _ _ _ c.listed.ensures.counted c.listed.ensures.refused
