use Rattle.std.proofs.Common.{arith}
use Rattle.std.proofs.lemmas.Grind.{common_steps}
use Rattle.tal_words.proofs.Modes.{mode_steps}
use Rattle.tal_words.proofs.opcode.are_modes.Goals as goal

pub loop-at-preserved : goal.loop-at-preserved
loop-at-preserved c = grind (arith, common_steps, mode_steps)

pub returns-then-not-is_mode : goal.returns-then-not-is_mode
returns-then-not-is_mode c = grind (arith, common_steps, mode_steps)
