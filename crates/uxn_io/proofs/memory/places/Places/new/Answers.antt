use Rattle.std.proofs.lemmas.Grind.{common_steps}
use Rattle.std.proofs.Common.{arith}
use Rattle.uxn_io.proofs.InMemory.SoundLemmas.{held_tree}
use Rattle.uxn_io.proofs.memory.places.Places.new.Goals as goal

pub invariant_of-result : goal.invariant_of-result
invariant_of-result c = grind (arith, common_steps, held_tree)
