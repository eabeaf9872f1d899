use Rattle.vector_loop.proofs.Common.{arith, rules}
use Rattle.vector_loop.proofs.Taking.{takes-newline}
use Rattle.vector_loop.proofs.input_queue.InputQueue.take.Goals as goal

pub returns-in-len1-up-clause-rest : goal.returns-in-len1-up-clause-rest
returns-in-len1-up-clause-rest = search (arith, rules, takes-newline)

pub returns-in-len1-up-clause-value : goal.returns-in-len1-up-clause-value
returns-in-len1-up-clause-value = search (arith, rules, takes-newline)
