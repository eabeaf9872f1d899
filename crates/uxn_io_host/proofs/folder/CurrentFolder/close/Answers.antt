use Rattle.uxn_io_host.proofs.Counting.{call_looked}
use Rattle.uxn_io_host.proofs.folder.CurrentFolder.close.Goals as goal

pub returns : goal.returns
returns g c = call_looked c.let_go.result _ _ _ _ c.let_go.ensures.counted c.let_go.ensures.refused
