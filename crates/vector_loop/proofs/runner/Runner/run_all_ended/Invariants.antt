use Rattle.vector_loop.proofs.Common.{HasTallyRoom, SameRunner, ended_vectors, false, give_each, models_of, of_vectors, range_with_len}
use Rattle.vector_loop.proofs.Common.{slice_index_or, vector_where, ◌-◌}
use Rattle.vector_loop.proofs.Answering.{Going}
use Rattle.vector_loop.proofs.runner.Runner.run_all_ended.Given as goal

abbrev pub invariant-loop-voice : goal.invariant-loop-voice
invariant-loop-voice g l = record {
  going : Going (models_of g.T.Tree g.O.Sink g.E.Sink g.W.Watcher) l.fn.self l.self (ended_vectors l.fn.self.budget l.ended)
      (give_each (λ voice. vector_where l.fn.self.budget (slice_index_or l.ended voice false) voice) (range_with_len l.voice (4 - l.voice)))
      (of_vectors 4) (of_vectors (4 - l.voice));
  same : SameRunner g.T.Tree l.fn.self l.self;
  room : HasTallyRoom l.self.tally l.self.budget (of_vectors (4 - l.voice));
}
