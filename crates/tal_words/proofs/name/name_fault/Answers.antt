use Rattle.std.proofs.Common.{arith}
use Rattle.std.proofs.lemmas.Grind.{common_steps}
use Rattle.tal_words.specs.Names.{name_fault}
use Rattle.tal_words.proofs.name.name_fault.Goals as goal

pub returns-then-is_short_number : goal.returns-then-is_short_number
unfolding name_fault
returns-then-is_short_number c = grind (arith, common_steps)

pub returns-else-is_short_number : goal.returns-else-is_short_number
unfolding name_fault
returns-else-is_short_number c = grind (arith, common_steps)
