-- Notes that are over, and what voices give.
use Rattle.std.proofs.lemmas.Grind.{common_steps}
use Rattle.std.specs.Prelude.{◌≡◌, ℕ, zero, suc, ◌+◌, ◌≤◌, true, false, refl, List, slice_index}
use Rattle.std.proofs.Common.{subst, arith}
use Rattle.std.proofs.lemmas.Bool.Decides.{nat_tests}
use Rattle.std.proofs.Math.Numerals.{add-one}
use Rattle.audio_mixer.specs.declared.notes.Start.{Start}
use Rattle.audio_mixer.specs.declared.voices.Pair.{Pair}
use Rattle.audio_mixer.specs.Notes.{steps_of, wrapped, is_played, is_released, note_has_ended, envelope_at, heard, left_of, right_of}
use Rattle.audio_mixer.specs.Sounds.{note_is_over}
use Rattle.audio_mixer.specs.Voices.{IsAhead, GivesPair}

-- a note that has ended has ended at every later age
steps-grow : (note : Start) (age : ℕ) → steps_of note age ≤ steps_of note (age + 1)
unfolding steps_of
steps-grow note age = grind (arith, common_steps)

released-later : (note : Start) (age : ℕ) → is_released note age ≡ true → is_released note (age + 1) ≡ true
unfolding is_released
released-later note age h = grind (arith, nat_tests)

played-later : (note : Start) (age : ℕ) → is_played note age ≡ true → is_played note (age + 1) ≡ true
unfolding is_played wrapped
played-later note age h = let grows = steps-grow note (age + 1) in grind (arith, nat_tests)

pub ended-later : (note : Start) (age : ℕ) → note_has_ended note age ≡ true → note_has_ended note (age + 1) ≡ true
ended-later note age h = grind (arith, nat_tests, released-later note age, played-later note age)

pub over-next : (note : Start) (age : ℕ) → note_is_over note (age + 1) ≡ note_has_ended note age
over-next note age = rw add-one refl

pub over-ended : (note : Start) (age : ℕ) → note_is_over note age ≡ true → note_has_ended note age ≡ true
over-ended note zero h = cc
over-ended note (suc age) h = subst (λ n. note_has_ended note n ≡ true) (add-one age) (ended-later note age h)

-- the pair at an age at which the note has not ended
pub not-ended : (note : Start) (age phase place : ℕ) → is_released note age ≡ false → IsAhead note age phase place → note_has_ended note age ≡ false
not-ended note age phase place released ahead = rw (released, ahead.goes_on) refl

pub gives-pair : (memory : List ℕ) (note : Start) (age phase place byte : ℕ) (pair : Pair) →
    is_released note age ≡ false → IsAhead note age phase place → byte ≡ slice_index memory (note.addr + place) →
    pair.left ≡ heard byte (envelope_at note age) (left_of note) → pair.right ≡ heard byte (envelope_at note age) (right_of note) →
    GivesPair memory note age pair
gives-pair memory note age phase place byte pair released ahead got left right = grind (arith, common_steps)
