use Rattle.std.proofs.Common.{arith}
use Rattle.std.proofs.lemmas.Grind.{common_steps}
use Rattle.text_lines.proofs.Numerals.{is_text, parsed}
use Rattle.text_lines.proofs.numbers.spelled.Goals as goal

pub returns-in-Ok : goal.returns-in-Ok
returns-in-Ok c = grind (arith, common_steps, parsed)

pub returns-in-Err : goal.returns-in-Err
returns-in-Err c = grind (arith, common_steps, is_text)
