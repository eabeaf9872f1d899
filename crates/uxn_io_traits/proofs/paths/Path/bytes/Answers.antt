use Rattle.uxn_io_traits.proofs.PathLemmas.{path_of_text}
use Rattle.uxn_io_traits.proofs.paths.Path.bytes.Goals as goal

pub returns-clause-path : goal.returns-clause-path
returns-clause-path c = rw (← c.self.view_is) (path_of_text _ c.self.invariant.path)
