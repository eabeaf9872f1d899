use Rattle.std.proofs.Common.{arith}
use Rattle.std.proofs.lemmas.Grind.{common_steps}
use Rattle.uxn_io_traits.specs.CallLaws.{nothing-made}
use Rattle.uxn_io.proofs.InMemory.CallLemmas.{takes-unlisted, has-place}
use Rattle.uxn_io.proofs.memory.trees.MemTreeTree.create.Goals as goal

pub returns-then-begin-clause-ended : goal.returns-then-begin-clause-ended
returns-then-begin-clause-ended c = grind (arith, common_steps, has-place, nothing-made, takes-unlisted)
