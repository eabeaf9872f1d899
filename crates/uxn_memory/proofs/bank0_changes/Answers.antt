use Rattle.uxn_memory.specs.Banks.{bank0_law}
use Rattle.uxn_memory.proofs.bank0_changes.Goals as goal

pub returns : goal.returns
returns c = bank0_law
