-- What drawing a value over a pixel leaves.
use Rattle.std.proofs.Common.{◌≡◌, ℕ, zero, suc, ◌+◌, ◌*◌, ◌^◌, ◌<◌, Bool, true, false, not, ◌==◌, bit_and, bit_or, if◌then◌else◌, zero-mul, one-mul, List, [], slice_index, slice_index_or, unwrap_or, Some, None, refl, arith}
use Rattle.std.specs.Int.Bits.{or_zero_l, or_zero_r, and_zero_r}
use Rattle.std.proofs.lemmas.Bool.{ne_eqb}
use Rattle.std.proofs.lemmas.Bool.Decides.{nat_tests}
use Rattle.std.proofs.lemmas.Nat.{pow_pos}
use Rattle.std.proofs.lemmas.Nat.Bits.{and_pow, and_high, bit_at-lt}
use Rattle.screen_layers.specs.Drawings.{bit_number, bit_of}
use Rattle.screen_layers.specs.Blending.{ink, blends, is_transparent, AreInks}

-- the colour of a value
abbrev colour_at : ℕ → ℕ → ℕ
colour_at blend value = slice_index (slice_index_or blends value []) blend

over-is : (blend value under : ℕ) → 0 < value → colour_at blend value ≡ unwrap_or (ink blend value) under
unfolding ink
over-is blend value under some = grind (arith, nat_tests)

-- where value 0 draws nothing its colour is 0
clear-is : (blend under : ℕ) → under < 256 → bit_or (colour_at blend 0) (bit_and under (if is_transparent blend then 255 else 0)) ≡ unwrap_or (ink blend 0) under
unfolding ink
clear-is blend under low = by (is_transparent blend) refl where
  none : is_transparent blend ≡ true → colour_at blend 0 ≡ 0
  none e = grind (arith, nat_tests)

  by : (clear : Bool) → is_transparent blend ≡ clear
      → bit_or (colour_at blend 0) (bit_and under (if clear then 255 else 0)) ≡ unwrap_or (if clear then None else Some (colour_at blend 0)) under
  by true e = rw (none e, or_zero_l, and_high under 8 0) (omega arith)
  by false e = rw (and_zero_r, or_zero_r) refl

-- the colour of two bits
pub over-pair : (blend under : ℕ) (colours : List ℕ) (kept : ℕ) (low high : Bool) → under < 256 → AreInks blend colours kept
    → (if low then (if high then slice_index colours 3 else slice_index colours 1) else (if high then slice_index colours 2 else bit_or (slice_index colours 0) (bit_and under kept)))
    ≡ unwrap_or (ink blend (bit_number low + 2 * bit_number high)) under
over-pair blend under colours kept true true fits inks = rw inks.same (over-is blend 3 under (omega arith))
over-pair blend under colours kept true false fits inks = rw inks.same (over-is blend 1 under (omega arith))
over-pair blend under colours kept false true fits inks = rw inks.same (over-is blend 2 under (omega arith))
over-pair blend under colours kept false false fits inks = rw (inks.same, inks.kept) (clear-is blend under fits)

-- the colours are those of a layer
ink-colour : (blend value under : ℕ) → under < 4 → unwrap_or (ink blend value) under < 4
unfolding ink
ink-colour blend value under fits = grind (arith, nat_tests)

pub over-colour : (blend under result : ℕ) (low high : Bool) → under < 4 → result ≡ unwrap_or (ink blend (bit_number low + 2 * bit_number high)) under → result < 4
over-colour blend under result low high fits e = rw e (ink-colour blend (bit_number low + 2 * bit_number high) under fits)

-- what a mask of one bit finds
pub bit-found : (byte place mask : ℕ) → mask ≡ 2 ^ place → bit_number (not (bit_and byte mask == 0)) ≡ bit_of byte place
bit-found byte place mask e = rw (e, and_pow byte place) (counted (bit_of byte place) (2 ^ place) (bit_at-lt byte place) (pow_pos place)) where
  counted : (bit power : ℕ) → bit < 2 → 0 < power → bit_number (not (bit * power == 0)) ≡ bit
  counted zero power b p = rw (zero-mul power) refl
  counted (suc zero) power b p = rw (one-mul power, ne_eqb power 0 (λ z. absurd (omega arith))) refl
  counted (suc (suc bit)) power b p = absurd (omega arith)
