-- Numbers in so many digits.
use Rattle.std.proofs.lemmas.Grind.{common_steps}
use Rattle.std.proofs.Common.{◌≡◌, ℕ, zero, suc, ◌+◌, ◌-◌, ◌/◌, ◌%◌, ◌^◌, ◌<◌, ◌≤◌, ◌==◌, nat_lt, List, [], ◌∷◌, ◌++◌, length, refl, ap, sym, ◌∙◌}
use Rattle.std.proofs.Common.{add-one, arith}
use Rattle.std.proofs.Math.Nat.{one-le-pow}
use Rattle.std.proofs.lemmas.Bool.Decides.{Decides-ltb}
use Rattle.std.proofs.lemmas.List.{length_push}
use Rattle.std.specs.Prelude.{slice_set}
use Rattle.uxn_memory.specs.Bytes.{with_bytes}
use Rattle.file_ports.proofs.MemoryLemmas.{with_last}
use Rattle.uxn_io_traits.specs.NumberText.{hex_digit, hex_of_short}
use Rattle.file_ports.specs.Signs.{hex_digits}

pub length-hex_digits : (count value : ℕ) → length (hex_digits count value) ≡ count
unfolding hex_digits
length-hex_digits zero value = refl
length-hex_digits (suc count) value = length_push (hex_digits count (value / 16)) (hex_digit (value % 16)) ∙ ap (λ (n : ℕ). n + 1) (length-hex_digits count (value / 16)) ∙ add-one count

-- the digits but the last are those of a sixteenth
pub digits-more : (left value : ℕ) → 0 < left → hex_digits left value ≡ hex_digits (left - 1) (value / 16) ++ hex_digit (value % 16) ∷ []
unfolding hex_digits
digits-more = grind (arith, common_steps)

pub digits-none : (value : ℕ) → hex_digits 0 value ≡ []
unfolding hex_digits
digits-none value = refl

-- a number fits as a sixteenth of it does in one digit less
pub fits-less : (rest left : ℕ) → 0 < left → nat_lt (rest / 16) (16 ^ (left - 1)) ≡ nat_lt rest (16 ^ left)
fits-less rest left h = grind (arith, common_steps)

-- where nothing is left of a number, or no digit, it is observed whether it fits
pub fits-end : (rest left : ℕ) → (0 < rest → 0 < left → ⊥) → (rest == 0) ≡ nat_lt rest (16 ^ left)
fits-end zero left stop = sym ((Decides-ltb 0 (16 ^ left)).1 (one-le-pow left 16 (omega arith)))
fits-end (suc rest) zero stop = grind (arith, common_steps)
fits-end (suc rest) (suc left) stop = absurd (stop (omega arith) (omega arith))

-- the last digit that is left is put
pub digit_put : (memory now : List ℕ) (at left rest digit : ℕ) → now ≡ slice_set memory (at + (left - 1)) digit → digit ≡ hex_digit (rest % 16)
    → at + left ≤ length memory → 0 < left
    → with_bytes now at (hex_digits (left - 1) (rest / 16)) ≡ with_bytes memory at (hex_digits left rest)
digit_put memory now at left rest digit is last within some = grind (arith, common_steps, digits-more, length-hex_digits, with_last)

-- four digits of a short
pub short_digits : (value : ℕ) → value < 65536 → hex_of_short value ≡ hex_digits 4 value
unfolding hex_digits
short_digits value h = grind (arith, common_steps)
