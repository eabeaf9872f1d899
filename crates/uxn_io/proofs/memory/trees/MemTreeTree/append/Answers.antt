use Rattle.std.proofs.Common.{arith}
use Rattle.std.proofs.lemmas.Grind.{common_steps}
use Rattle.uxn_io_traits.specs.AppendingLaws.{contents_after-file}
use Rattle.uxn_io_traits.specs.CallLaws.{nothing-made, all-made}
use Rattle.uxn_io.proofs.InMemory.CallLemmas.{takes-unlisted, has-room, append-left}
use Rattle.uxn_io.proofs.memory.trees.MemTreeTree.append.Goals as goal

pub returns-then-begin-clause-ended : goal.returns-then-begin-clause-ended
returns-then-begin-clause-ended c = grind (arith, common_steps, has-room, nothing-made, takes-unlisted)

pub returns-clause-ended : goal.returns-clause-ended
returns-clause-ended c = grind (arith, common_steps, all-made, append-left, contents_after-file, takes-unlisted)
