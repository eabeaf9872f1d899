-- A bit set or cleared, as a set of addresses.
use Rattle.std.proofs.lemmas.Grind.{common_steps}
use Rattle.std.proofs.Common.{◌≡◌, ℕ, ◌*◌, ◌/◌, ◌%◌, ◌^◌, ◌<◌, List, length, get_or, set, replicate, inl, inr, refl, ap, arith, w64}
use Rattle.std.proofs.Math.Path.{fun_ext}
use Rattle.std.specs.Int.{bit_not}
use Rattle.std.specs.Int.Bits.{bit_and}
use Rattle.std.specs.Int.RustNames.{bit_or}
use Rattle.std.proofs.lemmas.Bool.{cases_eq, eq-eqb, ne_eqb}
use Rattle.std.proofs.lemmas.List.{get_or-set_same, get_or-set_other}
use Rattle.std.proofs.lemmas.Nat.Bits.{bit_at-zero, bit_at_set_same, bit_at_set_other, bit_at_clear_same, bit_at_clear_other}
use Rattle.uxn_debugger.specs.Log.{no_breaks, set_with_break, without_break}
use Rattle.uxn_debugger.specs.Bits.{addresses_in}

-- addresses of the same word and bit are the same
same_address : (a x : ℕ) → a / 64 ≡ x / 64 → a % 64 ≡ x % 64 → a ≡ x
same_address a x words bits = omega arith

-- no bit is set among zeros
zero_at : (size i : ℕ) → get_or {A = ℕ} (replicate size 0) i 0 ≡ 0
zero_at = grind (arith, common_steps)

pub none_in_zeros : (size : ℕ) → addresses_in (replicate size 0) ≡ no_breaks
none_in_zeros size = fun_ext (λ a. rw (zero_at size (a / 64), bit_at-zero (a % 64)) refl)

pub bit_set : (bits : List ℕ) (x : ℕ) → x / 64 < length bits
    → addresses_in (set bits (x / 64) (bit_or (get_or bits (x / 64) 0) (1 * 2 ^ (x % 64) % 2 ^ 64))) ≡ set_with_break x (addresses_in bits)
bit_set bits x within = fun_ext (λ a. elim (cases_eq (a / 64) (x / 64)) [
  | inl same ↦ elim (cases_eq (a % 64) (x % 64)) [
    | inl both ↦ rw (same, get_or-set_same bits (x / 64) _ 0 within, both, bit_at_set_same w64 (get_or bits (x / 64) 0) (x % 64) (omega arith), eq-eqb a x (same_address a x same both)) refl
    | inr other ↦ rw (ne_eqb a x (λ e. other (ap (λ n. n % 64) e)), same, get_or-set_same bits (x / 64) _ 0 within, bit_at_set_other w64 (get_or bits (x / 64) 0) (x % 64) (omega arith) (a % 64) other) refl
  ]
  | inr other ↦ rw (ne_eqb a x (λ e. other (ap (λ n. n / 64) e)), get_or-set_other bits (x / 64) (a / 64) _ 0 other) refl
])

pub bit_cleared : (bits : List ℕ) (x : ℕ) → x / 64 < length bits
    → addresses_in (set bits (x / 64) (bit_and (get_or bits (x / 64) 0) (bit_not w64 (1 * 2 ^ (x % 64) % 2 ^ 64)))) ≡ without_break x (addresses_in bits)
bit_cleared bits x within = fun_ext (λ a. elim (cases_eq (a / 64) (x / 64)) [
  | inl same ↦ elim (cases_eq (a % 64) (x % 64)) [
    | inl both ↦ rw (same, get_or-set_same bits (x / 64) _ 0 within, both, bit_at_clear_same w64 (get_or bits (x / 64) 0) (x % 64) (omega arith), eq-eqb a x (same_address a x same both)) refl
    | inr other ↦ rw (ne_eqb a x (λ e. other (ap (λ n. n % 64) e)), same, get_or-set_same bits (x / 64) _ 0 within, bit_at_clear_other w64 (get_or bits (x / 64) 0) (x % 64) (omega arith) (a % 64) (omega arith) other) refl
  ]
  | inr other ↦ rw (ne_eqb a x (λ e. other (ap (λ n. n / 64) e)), get_or-set_other bits (x / 64) (a / 64) _ 0 other) refl
])
