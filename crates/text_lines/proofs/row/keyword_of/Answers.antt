use Rattle.std.proofs.Common.{arith}
use Rattle.std.proofs.lemmas.Grind.{common_steps}
use Rattle.text_lines.specs.Rows.{keyword_of}
use Rattle.text_lines.proofs.row.keyword_of.Goals as goal

pub returns-clause-keyword : goal.returns-clause-keyword
unfolding keyword_of
returns-clause-keyword g c = grind (arith, common_steps)

pub returns-then-begins_with-clause-keyword : goal.returns-then-begins_with-clause-keyword
unfolding keyword_of
returns-then-begins_with-clause-keyword g c = grind (arith, common_steps)

pub returns-in_err-keyword-clause-keyword : goal.returns-in_err-keyword-clause-keyword
unfolding keyword_of
returns-in_err-keyword-clause-keyword g c = grind (arith, common_steps)
