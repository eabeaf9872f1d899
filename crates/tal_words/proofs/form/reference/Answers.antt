use Rattle.std.proofs.Common.{arith}
use Rattle.std.proofs.lemmas.Grind.{common_steps}
use Rattle.tal_words.proofs.form.reference.Goals as goal

pub returns-in-38 : goal.returns-in-38
returns-in-38 c = grind (arith, common_steps)

pub returns-in-123 : goal.returns-in-123
returns-in-123 c = grind (arith, common_steps)
