-- What the four voices sound: nothing, or a note at an age (profile).
use Rattle.std.specs.Prelude.{ℕ, zero, suc, ◌+◌, ◌*◌, ◌++◌, ◌==◌, ◌&&◌, Bool, false, not}
use Rattle.std.specs.Prelude.{if◌then◌else◌, List, [], ◌∷◌, ℤ, pos}
use Rattle.std.specs.Int.{w16, int_wrapping_add}
use Rattle.audio_mixer.specs.declared.notes.Start.{Start}
use Rattle.audio_mixer.specs.Notes.{is_repeating, release_of, is_silent, note_has_ended, sample_at, steps_of, wrapped}
use Rattle.audio_mixer.specs.Notes.{envelope_at, level, left_of, right_of}

-- a voice sounds nothing, or a note of which so many samples were rendered
pub data Sound : Type 0 where
  Silence : Sound
  Note : Start → ℕ → Sound

-- what a voice sounds once a note is started
abbrev pub begun : Start → Sound
begun note = if is_silent note then Silence else Note note 0

-- so many samples later
abbrev pub later : ℕ → Sound → Sound
later samples Silence = Silence
later samples (Note note age) = Note note (age + samples)

-- the voice is stopped: the last sample that was rendered is one at which the note had ended
abbrev pub note_is_over : Start → ℕ → Bool
note_is_over note zero = false
note_is_over note (suc age) = note_has_ended note age

-- a note that repeats its sample and has no envelope goes on without end
abbrev pub is_endless : Start → Bool
is_endless note = is_repeating note && (release_of note == 0)

-- the voice plays a note that will end
abbrev pub can_end : Sound → Bool
can_end Silence = false
can_end (Note note age) = not (note_is_over note age) && not (is_endless note)

-- the note ends among the next so many samples
abbrev pub ends_within : ℕ → Sound → Bool
ends_within samples Silence = false
ends_within samples (Note note age) = not (note_is_over note age) && note_is_over note (age + samples)

-- the sample of one side, so many samples from now
abbrev pub sample_in : List ℕ → (Start → ℕ) → Sound → ℕ → ℤ
sample_in memory volume Silence ahead = pos 0
sample_in memory volume (Note note age) ahead = sample_at memory note (volume note) (age + ahead)

-- samples are added modulo 65536, as signed shorts
abbrev pub added : ℤ → ℤ → ℤ
added = int_wrapping_add w16

abbrev pub sum_of : ℤ → ℤ → ℤ → ℤ → ℤ
sum_of a b c d = added (added (added (added (pos 0) a) b) c) d

-- the sample of one side, of all four voices, so many samples from now
abbrev pub mixed : List ℕ → (Start → ℕ) → (ℕ → Sound) → ℕ → ℤ
mixed memory volume sounds ahead = sum_of
    (sample_in memory volume (sounds 0) ahead) (sample_in memory volume (sounds 1) ahead)
    (sample_in memory volume (sounds 2) ahead) (sample_in memory volume (sounds 3) ahead)

-- the first so many pairs of samples, left then right
unfoldable pub pairs : ℕ → List ℕ → (ℕ → Sound) → List ℤ
pairs zero memory sounds = []
pairs (suc count) memory sounds = pairs count memory sounds
    ++ mixed memory left_of sounds count ∷ mixed memory right_of sounds count ∷ []

-- a frame has 735 of them
abbrev pub frame_of : List ℕ → (ℕ → Sound) → List ℤ
frame_of memory sounds = pairs 735 memory sounds

-- which of the four notes end among the next so many samples
abbrev pub endings : ℕ → (ℕ → Sound) → List Bool
endings samples sounds =
    ends_within samples (sounds 0) ∷ ends_within samples (sounds 1)
    ∷ ends_within samples (sounds 2) ∷ ends_within samples (sounds 3) ∷ []

-- the voices once a note is started on one of them
abbrev pub started_on : ℕ → Start → (ℕ → Sound) → ℕ → Sound
started_on voice note sounds other = if other == voice then begun note else sounds other

-- the place in the sample
abbrev pub position_of : Sound → ℕ
position_of Silence = 0
position_of (Note note age) = if note_is_over note age then 0 else wrapped note (steps_of note age)

-- how loud the voice is: left in the high digit, right in the low one
abbrev pub output_of : Sound → ℕ
output_of Silence = 0
output_of (Note note age) =
    if note_is_over note age then 0 else level (envelope_at note age) (left_of note) * 16 + level (envelope_at note age) (right_of note)
