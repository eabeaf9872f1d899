use Rattle.vector_loop.proofs.Common.{Err, arith, false, give_each, of_vectors, range_with_len, rules, slice_index_or, suc, unless_over}
use Rattle.vector_loop.proofs.Common.{vector_where, ◌+◌, ◌-◌, ◌≡◌}
use Rattle.vector_loop.proofs.Counting.{room-less}
use Rattle.vector_loop.proofs.Answering.{answers-nothing, going-on, going-stopped, room-after, same-both, same-itself}
use Rattle.vector_loop.proofs.runner.Runner.run_all_ended.Goals as goal

pub loop-voice-init : goal.loop-voice-init
loop-voice-init g c = record { going = λ after answer answers. answers; same = same-itself _ _; room = c.requires }

pub run_ended-requires-clause-room : goal.run_ended-requires-clause-room
run_ended-requires-clause-room g c =
    room-less _ (of_vectors 1) (of_vectors (4 - c.loop-voice.voice)) _ (omega (arith, c.loop-voice-test.true)) (omega arith) c.loop-voice.invariant.room

pub loop-voice-preserved : goal.loop-voice-preserved
unfolding give_each
loop-voice-preserved g c =
    let inv = c.loop-voice.invariant in
    let voice = c.loop-voice.voice in
    let left : 4 - voice ≡ suc (4 - (voice + 1)) = omega (arith, c.loop-voice-test.true) in
    let done = c.in_ok-run_ended.ensures in
    record {
      going = going-on _ _ _ _ _ (λ n. unless_over (vector_where n (slice_index_or c.args.ended.now voice false) voice))
          (give_each (λ v. vector_where c.args.self.now.budget (slice_index_or c.args.ended.now v false) v)
          (range_with_len (voice + 1) (4 - (voice + 1))))
          c.args.self.now.budget (of_vectors 4) _ (of_vectors 1) (of_vectors (4 - (voice + 1))) (omega arith) (omega arith) inv.same.budget
          (rw left at inv.going) c.in_ok-run_ended.field-0 (rw c.from.ensures at done);
      same = same-both _ _ _ _ inv.same done.same;
      room = room-after _ _ _ _ (of_vectors 1) (of_vectors (4 - (voice + 1))) _ _ (omega (arith, c.loop-voice-test.true)) (omega arith) inv.room done;
    }

pub returns-in_err-run_ended : goal.returns-in_err-run_ended
unfolding give_each
returns-in_err-run_ended g c =
    let stop = c.in_err-run_ended.field-0.0 in
    let voice = c.loop-voice.voice in
    let left : 4 - voice ≡ suc (4 - (voice + 1)) = omega (arith, c.loop-voice-test.true) in
    let result : c.from_residual.result ≡ Err stop = search rules in
    rw result (going-stopped _ _ _ _ _ (λ n. unless_over (vector_where n (slice_index_or c.args.ended.now voice false) voice))
    (give_each (λ v. vector_where c.args.self.now.budget (slice_index_or c.args.ended.now v false) v) (range_with_len (voice + 1) (4 - (voice + 1))))
    c.args.self.now.budget (of_vectors 4) _ (of_vectors 1) (of_vectors (4 - (voice + 1))) (omega arith) (omega arith)
    c.loop-voice.invariant.same.budget (rw left at c.loop-voice.invariant.going) stop (rw c.from.ensures at c.in_err-run_ended.ensures))

pub returns : goal.returns
unfolding give_each
returns g c =
    let none : 4 - c.loop-voice.voice ≡ 0 = omega (arith, c.loop-voice-test.false) in
    rw none at c.loop-voice.invariant.going _ _ (answers-nothing _ _ (tt {0}))
