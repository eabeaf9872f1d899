-- A frame, voice by voice.
use Rattle.std.proofs.lemmas.Grind.{common_steps}
use Rattle.std.proofs.Common.{rules, tests, sym, ◌∙◌, subst, arith, ⊎_elim}
use Rattle.std.specs.Prelude.{◌≡◌, ◌≢◌, ℕ, zero, suc, ◌+◌, ◌-◌, ◌*◌, ◌<◌, ◌≤◌, true, refl, List, All, [], ◌∷◌, ◌++◌, length, take, replicate, ℤ, pos}
use Rattle.std.specs.Prelude.{slice_index_or, None}
use Rattle.std.proofs.Math.ListN.{set}
use Rattle.std.proofs.Math.Nat.{add-zero}
use Rattle.std.proofs.lemmas.Bool.{cases_lt}
use Rattle.std.proofs.lemmas.List.{length-set, take_all, get_or-set_other, get_or-replicate}
use Rattle.std.proofs.lemmas.List.Elements.{All-set}
use Rattle.audio_mixer.specs.declared.notes.Start.{Start}
use Rattle.audio_mixer.specs.declared.voices.Playing.{Playing}
use Rattle.audio_mixer.specs.declared.voices.Voice.{Voice}
use Rattle.audio_mixer.specs.declared.voices.Pair.{Pair}
use Rattle.audio_mixer.specs.Notes.{left_of, right_of, note_has_ended}
use Rattle.audio_mixer.specs.Sounds.{Sound, Silence, Note, note_is_over, sample_in, mixed, pairs, frame_of, added}
use Rattle.audio_mixer.specs.Voices.{Plays, GivesPair, IsShort, AddsSound, SoundsAs, Sounds}
use Rattle.audio_mixer.proofs.Overs.{over-next, over-ended, ended-later}

-- a note that has ended has ended at every later age, and is over then
pub ended-far : (note : Start) (age more : ℕ) → note_has_ended note age ≡ true → note_has_ended note (age + more) ≡ true
ended-far note age zero h = rw add-zero h
ended-far note age (suc more) h =
    subst (λ n. note_has_ended note n ≡ true) (omega arith) (ended-later note (age + more) (ended-far note age more h))

pub over-far : (note : Start) (age more : ℕ) → 0 < more → note_has_ended note age ≡ true → note_is_over note (age + more) ≡ true
over-far note age zero some h = absurd (omega arith)
over-far note age (suc more) some h =
    subst (λ n. note_is_over note n ≡ true) (omega arith) (over-next note (age + more) ∙ ended-far note age more h)

-- what holds of the note that is kept holds of the note that is played
pub of_note : (Holds : Start → ℕ → Type 0) (p : Playing) (note : Start) (age : ℕ) →
    ((t : ℕ) → Plays p p.start t → Holds p.start t) → Plays p note age → Holds note age
of_note Holds p note age holds plays = subst (λ s. Plays p s age → Holds s age) plays.of_start (holds age) plays

-- a sum is a short
added-short : (a b : ℤ) → IsShort (added a b)
added-short a b = grind (arith, common_steps)

-- a pair put in the place of another
abbrev with_pair : List ℤ → ℕ → ℤ → ℤ → List ℤ
with_pair frame place left right = set (set frame (2 * place) left) (2 * place + 1) right

at-left : (frame : List ℤ) (place : ℕ) (left right : ℤ) → 2 * place + 1 < length frame
    → slice_index_or (with_pair frame place left right) (2 * place) (pos 0) ≡ left
at-left frame place left right h = grind (arith, common_steps)

at-right : (frame : List ℤ) (place : ℕ) (left right : ℤ) → 2 * place + 1 < length frame
    → slice_index_or (with_pair frame place left right) (2 * place + 1) (pos 0) ≡ right
at-right frame place left right h = grind (arith, common_steps)

at-other : (frame : List ℤ) (place k : ℕ) (left right : ℤ) → k ≢ 2 * place → k ≢ 2 * place + 1
    → slice_index_or (with_pair frame place left right) k (pos 0) ≡ slice_index_or frame k (pos 0)
at-other frame place k left right l r = grind (arith, common_steps)

-- one more pair is added
adds-more : (memory : List ℕ) (sound : Sound) (count : ℕ) (before after : List ℤ) (x y : ℤ) → 2 * count + 1 < length after
    → AddsSound memory sound count before after → x ≡ sample_in memory left_of sound count → y ≡ sample_in memory right_of sound count
    → let left = added (slice_index_or after (2 * count) (pos 0)) x in
    let right = added (slice_index_or (set after (2 * count) left) (2 * count + 1) (pos 0)) y in
    AddsSound memory sound (count + 1) before (with_pair after count left right)
adds-more memory sound count before after x y room adds p q =
    let left = added (slice_index_or after (2 * count) (pos 0)) x in
    let right = added (slice_index_or (set after (2 * count) left) (2 * count + 1) (pos 0)) y in
    let here_left : left ≡ added (slice_index_or before (2 * count) (pos 0)) (sample_in memory left_of sound count) =
    rw (p, adds.others (2 * count) (omega arith)) refl in
    let here_right : right ≡ added (slice_index_or before (2 * count + 1) (pos 0)) (sample_in memory right_of sound count) =
    rw (q, get_or-set_other after (2 * count) (2 * count + 1) left (pos 0) (λ e. omega arith), adds.others (2 * count + 1) (omega arith)) refl in
    record {
      left = λ k h. ⊎_elim
          (λ below. at-other after count (2 * k) left right (λ e. omega arith) (λ e. omega arith) ∙ adds.left k below)
          (λ over. let same : count ≡ k = omega arith in
          subst (λ n. slice_index_or (with_pair after count left right) (2 * n) (pos 0) ≡ added (slice_index_or before (2 * n) (pos 0)) (sample_in memory left_of sound n))
          same (at-left after count left right room ∙ here_left))
          (cases_lt k count);
      right = λ k h. ⊎_elim
          (λ below. at-other after count (2 * k + 1) left right (λ e. omega arith) (λ e. omega arith) ∙ adds.right k below)
          (λ over. let same : count ≡ k = omega arith in
          subst (λ n. slice_index_or (with_pair after count left right) (2 * n + 1) (pos 0) ≡ added (slice_index_or before (2 * n + 1) (pos 0)) (sample_in memory right_of sound n))
          same (at-right after count left right room ∙ here_right))
          (cases_lt k count);
      others = λ k h. at-other after count k left right (λ e. omega arith) (λ e. omega arith) ∙ adds.others k (omega arith);
      shorts = All-set IsShort (set after (2 * count) left) (2 * count + 1) right (added-short (slice_index_or (set after (2 * count) left) (2 * count + 1) (pos 0)) y)
          (All-set IsShort after (2 * count) left (added-short (slice_index_or after (2 * count) (pos 0)) x) adds.shorts);
    }

-- so many pairs of a frame are added, and the note goes on
pub record IsAdded (memory : List ℕ) (note : Start) (age count : ℕ) (playing : Playing) (before after : List ℤ) : Type 0 where
  pub plays : Plays playing note (age + count)
  pub adds : All IsShort before → AddsSound memory (Note note age) count before after
  pub size : length after ≡ 1470

pub added-more : (memory : List ℕ) (note : Start) (age count : ℕ) (was now : Playing) (before after : List ℤ) (pair : Pair) → count < 735
    → IsAdded memory note age count was before after → GivesPair memory note (age + count) pair × Plays now note (age + count + 1)
    → let left = added (slice_index_or after (2 * count) (pos 0)) pair.left in
    let right = added (slice_index_or (set after (2 * count) left) (2 * count + 1) (pos 0)) pair.right in
    IsAdded memory note age (count + 1) now before (with_pair after count left right)
added-more memory note age count was now before after pair below done next = record {
  plays = subst (λ n. Plays now note n) (omega arith) next.1;
  adds = λ shorts. adds-more memory (Note note age) count before after pair.left pair.right (omega (arith, done.size)) (done.adds shorts) next.0.left next.0.right;
  size = length-set _ _ _ ∙ length-set _ _ _ ∙ done.size;
}

-- no pair is added yet
pub adds-none : (memory : List ℕ) (sound : Sound) (frame : List ℤ) → All IsShort frame → AddsSound memory sound 0 frame frame
adds-none memory sound frame shorts = grind (arith, common_steps)

-- the pairs that are left are those of a sound that is silent from there on
pub adds-silence : (memory : List ℕ) (sound : Sound) (count : ℕ) (before after : List ℤ) → length before ≡ 1470 → count ≤ 735
    → All IsShort before → AddsSound memory sound count before after
    → ((volume : Start → ℕ) (k : ℕ) → count ≤ k → sample_in memory volume sound k ≡ pos 0) → AddsSound memory sound 735 before after
adds-silence memory sound count before after size few shorts adds silent = search (rules, tests, cases_lt)

-- a note that has ended is silent, and so is a voice that is stopped
pub ended-silent : (memory : List ℕ) (note : Start) (age count : ℕ) → note_has_ended note (age + count) ≡ true
    → (volume : Start → ℕ) (k : ℕ) → count ≤ k → sample_in memory volume (Note note age) k ≡ pos 0
ended-silent memory note age count ended volume k h =
    let ends : note_has_ended note (age + k) ≡ true =
    subst (λ n. note_has_ended note n ≡ true) (omega arith) (ended-far note (age + count) (k - count) ended) in
    rw ends refl

stopped-silent : (memory : List ℕ) (voice : Voice) (sound : Sound) → voice.playing ≡ None → Sounds voice sound
    → (volume : Start → ℕ) (k : ℕ) → 0 ≤ k → sample_in memory volume sound k ≡ pos 0
stopped-silent memory voice Silence none sounds volume k h = refl
stopped-silent memory voice (Note note age) none sounds volume k h =
    let over : note_is_over note age ≡ true = subst (λ p. SoundsAs p (Note note age)) none sounds in
    ended-silent memory note age 0 (rw add-zero (over-ended note age over)) volume k h

pub stopped-adds : (memory : List ℕ) (voice : Voice) (sound : Sound) (frame : List ℤ) → length frame ≡ 1470
    → voice.playing ≡ None → Sounds voice sound → All IsShort frame → AddsSound memory sound 735 frame frame
stopped-adds memory voice sound frame size none sounds shorts = grind (arith, common_steps, adds-none, adds-silence, stopped-silent)

-- a frame is a pair after the other
prefix-more : (frame : List ℤ) (count : ℕ) → 2 * count + 1 < length frame → take (2 * suc count) frame
    ≡ take (2 * count) frame ++ slice_index_or frame (2 * count) (pos 0) ∷ slice_index_or frame (2 * count + 1) (pos 0) ∷ []
prefix-more frame count h = grind (arith, common_steps)

-- each pair of a frame is mixed
record IsMixed (memory : List ℕ) (sounds : ℕ → Sound) (frame : List ℤ) (k : ℕ) : Type 0 where
  pub left : slice_index_or frame (2 * k) (pos 0) ≡ mixed memory left_of sounds k
  pub right : slice_index_or frame (2 * k + 1) (pos 0) ≡ mixed memory right_of sounds k

pairs-of : (memory : List ℕ) (sounds : ℕ → Sound) (frame : List ℤ) (count : ℕ) → length frame ≡ 1470 → count ≤ 735
    → ((k : ℕ) → k < 735 → IsMixed memory sounds frame k) → take (2 * count) frame ≡ pairs count memory sounds
unfolding pairs
pairs-of memory sounds frame zero size h mixes = refl
pairs-of memory sounds frame (suc count) size h mixes =
    let here = mixes count (omega arith) in
    prefix-more frame count (omega (arith, size)) ∙ rw (pairs-of memory sounds frame count size (omega arith) mixes, here.left, here.right) refl

pub frame-of_sounds : (memory : List ℕ) (sounds : ℕ → Sound) (none a b c d : List ℤ) → length d ≡ 1470 → none ≡ replicate 1470 (pos 0)
    → AddsSound memory (sounds 0) 735 none a → AddsSound memory (sounds 1) 735 a b
    → AddsSound memory (sounds 2) 735 b c → AddsSound memory (sounds 3) 735 c d → d ≡ frame_of memory sounds
frame-of_sounds memory sounds none a b c d size zeros first second third fourth =
    let nothing : (k : ℕ) → k < 1470 → slice_index_or none k (pos 0) ≡ pos 0 = λ k h. rw zeros (get_or-replicate 1470 k (pos 0) (pos 0) h) in
    sym (take_all 1470 d (omega (arith, size))) ∙ pairs-of memory sounds d 735 size (omega arith) (λ k h. record {
      left = rw (fourth.left k h, third.left k h, second.left k h, first.left k h, nothing (2 * k) (omega arith)) refl;
      right = rw (fourth.right k h, third.right k h, second.right k h, first.right k h, nothing (2 * k + 1) (omega arith)) refl;
    })
