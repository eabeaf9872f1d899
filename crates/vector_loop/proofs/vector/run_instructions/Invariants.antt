use Rattle.vector_loop.proofs.Common.{models_of, running, ◌-◌, ◌≤◌}
use Rattle.uxn_opcodes.specs.Rule.{with_registers}
use Rattle.vector_loop.proofs.Vectors.{Along}
use Rattle.vector_loop.proofs.vector.run_instructions.Given as goal

abbrev pub invariant-loop-core : goal.invariant-loop-core
invariant-loop-core g l = record {
  within : l.left ≤ l.budget;
  along : Along (models_of g.T.Tree g.O.Sink g.E.Sink g.W.Watcher) (running l.fn.core l.fn.bus l.tally l.fn.watcher) (with_registers l.core l.registers) l.bus
      l.watcher l.budget (l.budget - l.left) l.left;
  some : 1 ≤ l.left;
}

abbrev pub decreases-loop-core : goal.decreases-loop-core
decreases-loop-core g l = l.left
