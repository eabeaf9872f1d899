use Rattle.std.proofs.Common.{arith}
use Rattle.std.proofs.lemmas.Grind.{common_steps}
use Rattle.tal_words.specs.Forms.{form}
use Rattle.tal_words.proofs.form.form_of.Goals as goal

pub returns-in-Some-rune_of : goal.returns-in-Some-rune_of
unfolding form
returns-in-Some-rune_of c = grind (arith, common_steps)
