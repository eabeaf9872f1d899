-- What the voices that are kept represent.
use Rattle.std.specs.Prelude.{◌≡◌, ℕ, ◌+◌, ◌*◌, ◌%◌, ◌<◌, ◌≤◌, ◌&&◌, min, Bool, true, false}
use Rattle.std.specs.Prelude.{List, All, slice_index_or, ℤ, pos, Option, Some, None}
use Rattle.audio_mixer.specs.declared.notes.Start.{Start}
use Rattle.audio_mixer.specs.declared.voices.Playing.{Playing}
use Rattle.audio_mixer.specs.declared.voices.Voice.{Voice}
use Rattle.audio_mixer.specs.declared.voices.Pair.{Pair}
use Rattle.audio_mixer.specs.declared.mixer.Mixer.{Mixer}
use Rattle.audio_mixer.specs.Notes.{advance_of, period_of, release_of, steps_of, wrapped, left_of, right_of, sample_at, sample_place, is_played}
use Rattle.audio_mixer.specs.Sounds.{Sound, Silence, Note, note_is_over, is_endless, sample_in, added}

-- a note that goes on is kept as its start, and the age, the phase and the place that it has come to
pub record Plays (playing : Playing) (note : Start) (age : ℕ) : Type 0 where
  pub of_start : playing.start ≡ note
  pub goes_on : note_is_over note age ≡ false
  pub kept_age : playing.age ≡ min age (release_of note)
  pub rest : playing.phase ≡ age * advance_of note % period_of note
  pub kept_place : playing.place ≡ wrapped note (steps_of note age)

-- the phase and the place of the sample at an age, where the note's own sample is not over
pub record IsAhead (note : Start) (age phase place : ℕ) : Type 0 where
  pub rest : phase ≡ (age + 1) * advance_of note % period_of note
  pub heard_at : place ≡ sample_place note age
  pub goes_on : is_played note age ≡ false

-- a pair has the samples of both sides at an age
pub record GivesPair (memory : List ℕ) (note : Start) (age : ℕ) (pair : Pair) : Type 0 where
  pub left : pair.left ≡ sample_at memory note (left_of note) age
  pub right : pair.right ≡ sample_at memory note (right_of note) age

-- a sample that stays as it is when 0 is added
abbrev pub IsShort : ℤ → Type 0
IsShort sample = added sample (pos 0) ≡ sample

-- the first so many pairs of a frame have the samples of a sound added, and the others are as before
pub record AddsSound (memory : List ℕ) (sound : Sound) (count : ℕ) (before after : List ℤ) : Type 0 where
  pub left : (k : ℕ) → k < count → slice_index_or after (2 * k) (pos 0)
      ≡ added (slice_index_or before (2 * k) (pos 0)) (sample_in memory left_of sound k)
  pub right : (k : ℕ) → k < count → slice_index_or after (2 * k + 1) (pos 0)
      ≡ added (slice_index_or before (2 * k + 1) (pos 0)) (sample_in memory right_of sound k)
  pub others : (k : ℕ) → 2 * count ≤ k → slice_index_or after k (pos 0) ≡ slice_index_or before k (pos 0)
  pub shorts : All IsShort after

-- a voice that is stopped sounds nothing, and every note that is over
abbrev pub SoundsAs : Option Playing → Sound → Type 0
SoundsAs None Silence = Unit {0}
SoundsAs None (Note note age) = note_is_over note age ≡ true
SoundsAs (Some playing) Silence = ⊥
SoundsAs (Some playing) (Note note age) = Plays playing note age

-- a voice that is stopped, or whose note goes on without end
abbrev pub plays_on : Option Playing → Bool
plays_on None = true
plays_on (Some playing) = is_endless playing.start

abbrev pub Sounds : Voice → Sound → Type 0
Sounds voice sound = SoundsAs voice.playing sound

-- the four voices sound so, by their numbers
pub record RepresentsSounds (mixer : Mixer) (sounds : ℕ → Sound) : Type 0 where
  pub first : Sounds mixer.first (sounds 0)
  pub second : Sounds mixer.second (sounds 1)
  pub third : Sounds mixer.third (sounds 2)
  pub fourth : Sounds mixer.fourth (sounds 3)

-- no voice plays a note that will end
abbrev pub all_play_on : Mixer → Bool
all_play_on mixer =
    plays_on mixer.first.playing && plays_on mixer.second.playing && plays_on mixer.third.playing && plays_on mixer.fourth.playing
