use Rattle.std.proofs.Common.{arith}
use Rattle.std.proofs.lemmas.Grind.{common_steps}
use Rattle.text_lines.specs.Numbers.{integer_within}
use Rattle.text_lines.proofs.numbers.integer_within.Goals as goal

pub returns-then-begins_with-clause-number : goal.returns-then-begins_with-clause-number
unfolding integer_within
returns-then-begins_with-clause-number c = grind (arith, common_steps)

pub returns-clause-number : goal.returns-clause-number
unfolding integer_within
returns-clause-number c = grind (arith, common_steps)

pub returns-then-begins_with-clause-within : goal.returns-then-begins_with-clause-within
returns-then-begins_with-clause-within c = grind (arith, common_steps)

pub returns-clause-within : goal.returns-clause-within
returns-clause-within c = grind (arith, common_steps)
