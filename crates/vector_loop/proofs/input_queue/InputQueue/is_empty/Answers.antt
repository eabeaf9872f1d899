use Rattle.vector_loop.proofs.Common.{arith, rules}
use Rattle.std.proofs.lemmas.Bool.Decides.{nat_tests}
use Rattle.vector_loop.proofs.Taking.{some-left}
use Rattle.vector_loop.proofs.input_queue.InputQueue.is_empty.Goals as goal

pub returns-else-is_empty : goal.returns-else-is_empty
returns-else-is_empty = search (arith, rules, nat_tests, some-left)
