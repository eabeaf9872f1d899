use Rattle.std.proofs.Common.{arith}
use Rattle.tal_words.proofs.Operations.{operation_steps}
use Rattle.tal_words.proofs.opcode.operation_of.Goals as goal

pub loop-code-preserved : goal.loop-code-preserved
loop-code-preserved c = grind (arith, operation_steps)

pub returns-then-eq-clause-value : goal.returns-then-eq-clause-value
returns-then-eq-clause-value c = grind (arith, operation_steps)
