-- Whatever a voice is said to sound, its position and its output are the same; and samples are signed shorts.
use Rattle.std.specs.Prelude.{◌≡◌, ℕ, zero, suc, ◌≤◌, min, refl}
use Rattle.std.specs.Prelude.{List, [], ◌∷◌, ◌++◌, map, ℤ}
use Rattle.std.specs.Int.{w16, cast_signed, cast_unsigned}
use Rattle.std.proofs.Common.{◌∙◌, ap, arith}
use Rattle.std.proofs.lemmas.Bool.Decides.{nat_tests}
use Rattle.std.proofs.lemmas.Int.{of_z-to_z}
use Rattle.std.proofs.lemmas.Nat.{mod_below}
use Rattle.std.proofs.lemmas.List.{map-append}
use Rattle.audio_mixer.specs.declared.notes.Start.{Start}
use Rattle.audio_mixer.specs.Notes.{loudness}
use Rattle.audio_mixer.specs.Notes.{left_of, right_of}
use Rattle.audio_mixer.specs.Sounds.{Sound, mixed, pairs, frame_of}

-- an envelope that is over stays so
pub loudness-kept : (attack decay sustain release age : ℕ) → attack ≤ decay → decay ≤ sustain → sustain ≤ release
    → loudness attack decay sustain release (min age release) ≡ loudness attack decay sustain release age
unfolding loudness
loudness-kept attack decay sustain release age d s r = grind (arith, nat_tests)

-- a sample as the signed short that its bits are
abbrev pub sample_short : ℤ → ℤ
sample_short sample = cast_signed w16 (cast_unsigned w16 sample)

kept_mixed : (memory : List ℕ) (volume : Start → ℕ) (sounds : ℕ → Sound) (ahead : ℕ)
    → sample_short (mixed memory volume sounds ahead) ≡ mixed memory volume sounds ahead
kept_mixed memory volume sounds ahead = ap (λ n. cast_signed w16 n) (of_z-to_z w16 _ (mod_below _ 65536 (omega arith)))

kept_pairs : (count : ℕ) (memory : List ℕ) (sounds : ℕ → Sound) → map sample_short (pairs count memory sounds) ≡ pairs count memory sounds
unfolding pairs
kept_pairs zero memory sounds = refl
kept_pairs (suc count) memory sounds =
    map-append sample_short (pairs count memory sounds) (mixed memory left_of sounds count ∷ mixed memory right_of sounds count ∷ [])
    ∙ ap (λ prefix. prefix ++ sample_short (mixed memory left_of sounds count) ∷ sample_short (mixed memory right_of sounds count) ∷ [])
    (kept_pairs count memory sounds)
    ∙ ap (λ left. pairs count memory sounds ++ left ∷ sample_short (mixed memory right_of sounds count) ∷ [])
    (kept_mixed memory left_of sounds count)
    ∙ ap (λ right. pairs count memory sounds ++ mixed memory left_of sounds count ∷ right ∷ []) (kept_mixed memory right_of sounds count)

-- the samples of a frame are signed shorts
pub kept_frame : (memory : List ℕ) (sounds : ℕ → Sound) → map sample_short (frame_of memory sounds) ≡ frame_of memory sounds
kept_frame memory sounds = kept_pairs 735 memory sounds
