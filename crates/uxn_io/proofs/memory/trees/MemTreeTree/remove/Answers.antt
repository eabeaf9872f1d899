use Rattle.std.proofs.Common.{arith}
use Rattle.std.proofs.lemmas.Grind.{common_steps}
use Rattle.std.proofs.lemmas.Bool.{true≢false}
use Rattle.uxn_io_traits.specs.CallLaws.{nothing-made, all-made, contents_after-removing}
use Rattle.uxn_io.proofs.InMemory.CallLemmas.{takes-unlisted, remove-left}
use Rattle.uxn_io.proofs.memory.trees.MemTreeTree.remove.Goals as goal

pub returns-then-begin-clause-ended : goal.returns-then-begin-clause-ended
returns-then-begin-clause-ended c = grind (arith, common_steps, nothing-made, takes-unlisted, true≢false)

pub returns-clause-ended : goal.returns-clause-ended
returns-clause-ended c = grind (arith, common_steps, all-made, contents_after-removing, remove-left, takes-unlisted)
