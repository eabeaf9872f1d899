-- A frame of which no samples are requested.
use Rattle.std.proofs.lemmas.Grind.{common_steps}
use Rattle.std.specs.Prelude.{◌≡◌, ℕ, zero, suc, ◌+◌, ◌*◌, ◌/◌, ◌%◌, ◌==◌, true, false, min, refl, None}
use Rattle.std.proofs.Common.{◌∙◌, arith}
use Rattle.std.proofs.lemmas.Bool.{and_parts}
use Rattle.audio_mixer.specs.declared.notes.Start.{Start}
use Rattle.audio_mixer.specs.declared.voices.Playing.{Playing}
use Rattle.audio_mixer.specs.declared.voices.Voice.{Voice}
use Rattle.audio_mixer.specs.Notes.{length_of, release_of, is_repeating, is_released, is_played, note_has_ended, steps_of, wrapped}
use Rattle.audio_mixer.specs.Sounds.{Sound, Silence, Note, note_is_over, is_endless, later}
use Rattle.audio_mixer.specs.Voices.{Plays, Sounds}
use Rattle.audio_mixer.proofs.Ages.{place-passed}
use Rattle.audio_mixer.proofs.Frames.{over-far}
use Rattle.audio_mixer.proofs.Overs.{over-ended}

-- a note without end is never over
never-ended : (note : Start) (age : ℕ) → is_endless note ≡ true → note_has_ended note age ≡ false
unfolding is_released is_played
never-ended note age e = grind (arith, common_steps)

never-over : (note : Start) (age : ℕ) → is_endless note ≡ true → note_is_over note age ≡ false
never-over note zero e = refl
never-over note (suc age) e = never-ended note age e

wrapped-repeating : (note : Start) (x : ℕ) → is_repeating note ≡ true → x % length_of note ≡ wrapped note x
unfolding wrapped
wrapped-repeating note x e = rw e refl

-- the place after so many samples of a note without end
pub place-without_end : (p : Playing) (age more : ℕ) → Plays p p.start age → is_endless p.start ≡ true
    → (p.place + more * p.whole + (p.phase + more * p.rest) / p.period) % p.len ≡ wrapped p.start (steps_of p.start (age + more))
place-without_end p age more plays e =
    let repeats = (and_parts (is_repeating p.start) (release_of p.start == 0) e).0 in
    let on : p.place + more * p.whole + (p.phase + more * p.rest) / p.period
    ≡ p.place + (more * p.whole + (p.phase + more * p.rest) / p.period) = omega arith in
    rw (on, p.len_of_start) (wrapped-repeating p.start _ repeats ∙ place-passed p age more _ plays refl)

pub age-passed : (p : Playing) (age more : ℕ) → Plays p p.start age → is_endless p.start ≡ true → p.age ≡ min (age + more) (release_of p.start)
age-passed p age more plays e = grind (arith, common_steps)

pub on-passed : (p : Playing) (age more : ℕ) → is_endless p.start ≡ true → note_is_over p.start (age + more) ≡ false
on-passed p age more e = never-over p.start (age + more) e

-- a voice that is stopped stays so
pub stopped-later : (voice : Voice) (sound : Sound) → voice.playing ≡ None → Sounds voice sound → Sounds voice (later 735 sound)
stopped-later voice Silence none sounds = sounds
stopped-later voice (Note note age) none sounds = grind (arith, common_steps, over-ended, over-far)
