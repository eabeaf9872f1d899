use Rattle.std.proofs.Common.{arith}
use Rattle.std.proofs.lemmas.Grind.{common_steps}
use Rattle.text_lines.proofs.script_line.texts_of_values.Goals as goal

pub loop-word-preserved : goal.loop-word-preserved
loop-word-preserved c = record {
  collected = grind (arith, common_steps);
  short = grind (arith, common_steps);
  bytes = grind (arith, common_steps);
}
