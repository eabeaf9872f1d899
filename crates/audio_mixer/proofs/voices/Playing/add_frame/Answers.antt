use Rattle.std.specs.Prelude.{◌≡◌, ◌+◌, ◌-◌, true}
use Rattle.std.proofs.Common.{arith, subst, sym}
use Rattle.audio_mixer.specs.Notes.{note_has_ended}
use Rattle.audio_mixer.specs.Sounds.{Note, note_is_over}
use Rattle.audio_mixer.specs.Voices.{Plays, GivesPair}
use Rattle.audio_mixer.proofs.Frames.{of_note, added-more, adds-silence, ended-silent, over-far}
use Rattle.audio_mixer.proofs.voices.Playing.add_frame.Goals as goal

pub loop-place-preserved : goal.loop-place-preserved
loop-place-preserved c = λ age plays.
    let done = c.loop-place.invariant age plays in
    added-more c.args.memory.now c.args.self.now.start age c.loop-place.place c.loop-place.self c.next.new.self c.args.into.now c.loop-place.into c.in-Some.pair
    c.loop-place-test.true done
    (of_note (λ note t. GivesPair c.args.memory.now note t c.in-Some.pair × Plays c.next.new.self note (t + 1)) c.loop-place.self _ _ c.in-Some.ensures.some done.plays)

pub returns-in_default-clause-adds : goal.returns-in_default-clause-adds
returns-in_default-clause-adds c = λ age plays shorts.
    let done = c.loop-place.invariant age plays in
    let ended = of_note (λ note t. note_has_ended note t ≡ true) c.loop-place.self _ _ c.in_default.ensures.none done.plays in
    adds-silence c.args.memory.now (Note c.args.self.now.start age) c.loop-place.place _ _ c.told-into (omega (arith, c.loop-place-test.true)) shorts (done.adds shorts)
    (ended-silent c.args.memory.now c.args.self.now.start age c.loop-place.place ended)

pub returns-in_default-clause-ends : goal.returns-in_default-clause-ends
returns-in_default-clause-ends c = λ age plays.
    let done = c.loop-place.invariant age plays in
    let ended = of_note (λ note t. note_has_ended note t ≡ true) c.loop-place.self _ _ c.in_default.ensures.none done.plays in
    sym (subst (λ n. note_is_over c.args.self.now.start n ≡ true) (omega (arith, c.loop-place-test.true))
    (over-far c.args.self.now.start (age + c.loop-place.place) (735 - c.loop-place.place) (omega (arith, c.loop-place-test.true)) ended))

pub returns-clause-adds : goal.returns-clause-adds
returns-clause-adds c = λ age plays.
    let whole : c.loop-place.place ≡ 735 = omega arith in
    rw whole at (c.loop-place.invariant age plays).adds

pub returns-clause-ends : goal.returns-clause-ends
returns-clause-ends c = λ age plays.
    let whole : c.loop-place.place ≡ 735 = omega arith in
    sym (rw whole at (c.loop-place.invariant age plays).plays.goes_on)

pub returns-clause-plays : goal.returns-clause-plays
returns-clause-plays c = λ _ age plays.
    let whole : c.loop-place.place ≡ 735 = omega arith in
    rw whole at (c.loop-place.invariant age plays).plays
