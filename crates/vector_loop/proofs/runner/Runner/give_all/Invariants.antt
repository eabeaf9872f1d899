use Rattle.vector_loop.proofs.Common.{HasTallyRoom, SameRunner, counts_of, give_each, given, length, models_of, ◌+◌, ◌≤◌}
use Rattle.varvara_bus.specs.Bus.{frames_begun}
use Rattle.vector_loop.proofs.Answering.{Going}
use Rattle.vector_loop.proofs.runner.Runner.give_all.Given as goal

abbrev pub invariant-loop-pending_input : goal.invariant-loop-pending_input
invariant-loop-pending_input g l = record {
  going : Going (models_of g.T.Tree g.O.Sink g.E.Sink g.W.Watcher) l.fn.self l.self (give_each (given l.fn.self.budget l.outputs) l.fn.input_queue)
      (give_each (given l.fn.self.budget l.outputs) l.input_queue) (counts_of l.fn.input_queue) (counts_of l.input_queue);
  same : SameRunner g.T.Tree l.fn.self l.self;
  frames : frames_begun l.self.bus.now + (counts_of l.input_queue).events ≤ 1000000;
  room : HasTallyRoom l.self.tally l.self.budget (counts_of l.input_queue);
}

abbrev pub decreases-loop-pending_input : goal.decreases-loop-pending_input
decreases-loop-pending_input g l = length l.input_queue
