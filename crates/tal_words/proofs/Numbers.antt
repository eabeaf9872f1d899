-- What the decoding of digits gives.
use Rattle.std.proofs.Common.{◌≡◌, ℕ, ◌+◌, ◌*◌, true, ◌&&◌, ◌==◌, ◌-◌, ◌≤◌, false, sym, List, [], ◌∷◌, length, Some, Ok, refl, ap, arith}
use borrow.Rule.Slice.PartMut.{put_mid}
use Rattle.std.proofs.lemmas.Bool.{and_parts, eqb-true}
use Rattle.std.proofs.lemmas.Bool.Decides.{nat_tests}
use Rattle.hex.specs.Hex.{decode_sized, decode_pairs, digit_or_error, hex_digit_value, pair_value, value_at}
use Rattle.tal_words.specs.Digits.{is_digit, digit_value, are_digits, number_of_digits, is_byte_number, is_short_number, is_address_number}

-- a lowercase digit has the value that hexadecimal text gives it
pub digit_read : (digit : ℕ) → is_digit digit ≡ true → hex_digit_value digit ≡ Some (digit_value digit)
digit_read digit h = grind (arith, nat_tests)

value_read : (digit i : ℕ) → is_digit digit ≡ true → value_at digit i ≡ Ok (digit_value digit)
value_read digit i h = ap (digit_or_error digit i) (digit_read digit h)

pair_read : (high low i : ℕ) → is_digit high ≡ true → is_digit low ≡ true → pair_value high low i ≡ Ok (digit_value high * 16 + digit_value low)
pair_read high low i h l = let first = value_read high i h in let second = value_read low (i + 1) l in rw (first, second) refl

-- two digits
pub byte_read : (text : List ℕ) → is_byte_number text ≡ true → decode_sized text 1 ≡ Ok (number_of_digits text ∷ [])
unfolding decode_pairs
byte_read [] h = cc
byte_read (a ∷ []) h = cc
byte_read (a ∷ b ∷ []) h =
    let digits = and_parts (is_digit a) (is_digit b && true) h in
    let last = and_parts (is_digit b) true digits.1 in
    let pair = pair_read a b 0 digits.0 last.0 in
    let same : digit_value a * 16 + digit_value b ≡ number_of_digits (a ∷ b ∷ []) = omega arith in
    rw pair (ap (λ (n : ℕ). Ok (n ∷ [])) same)
byte_read (a ∷ b ∷ c ∷ rest) h =
    let n = eqb-true (length (a ∷ b ∷ c ∷ rest)) 2 (and_parts (length (a ∷ b ∷ c ∷ rest) == 2) (are_digits (a ∷ b ∷ c ∷ rest)) h).0 in
    absurd (omega (arith, n))

-- the bytes of four digits
pub record Short (text : List ℕ) : Type 0 where
  pub high : ℕ
  pub low : ℕ
  pub read : decode_sized text 2 ≡ Ok (high ∷ low ∷ [])
  pub value : high * 256 + low ≡ number_of_digits text

-- four digits
pub short_read : (text : List ℕ) → is_short_number text ≡ true → Short text
unfolding decode_pairs
short_read [] h = cc
short_read (a ∷ []) h = cc
short_read (a ∷ b ∷ []) h = cc
short_read (a ∷ b ∷ c ∷ []) h = cc
short_read (a ∷ b ∷ c ∷ d ∷ []) h =
    let first = and_parts (is_digit a) (are_digits (b ∷ c ∷ d ∷ [])) h in
    let second = and_parts (is_digit b) (are_digits (c ∷ d ∷ [])) first.1 in
    let third = and_parts (is_digit c) (are_digits (d ∷ [])) second.1 in
    let fourth = and_parts (is_digit d) true third.1 in
    let high = pair_read a b 0 first.0 second.0 in
    let low = pair_read c d 2 third.0 fourth.0 in
    record {
      high = digit_value a * 16 + digit_value b;
      low = digit_value c * 16 + digit_value d;
      read = rw (high, low) refl;
      value = omega arith;
    }
short_read (a ∷ b ∷ c ∷ d ∷ e ∷ rest) h =
    let n = eqb-true (length (a ∷ b ∷ c ∷ d ∷ e ∷ rest)) 4 (and_parts (length (a ∷ b ∷ c ∷ d ∷ e ∷ rest) == 4) (are_digits (a ∷ b ∷ c ∷ d ∷ e ∷ rest)) h).0 in
    absurd (omega (arith, n))

-- one to four digits, behind zeros that make them four
pub record Padded (text digits : List ℕ) : Type 0 where
  pub number : is_address_number text ≡ true
  pub four : is_short_number digits ≡ true
  pub value : number_of_digits digits ≡ number_of_digits text

pub padded : (text : List ℕ) → false ≡ (length text == 0) → length text ≤ 4 → true ≡ are_digits text
    → Padded text (put_mid (4 - length text) (4 - (4 - length text)) (48 ∷ 48 ∷ 48 ∷ 48 ∷ []) text)
padded [] some few h = absurd cc
padded (a ∷ []) some few h = record { number = sym h; four = sym h; value = refl }
padded (a ∷ b ∷ []) some few h = record { number = sym h; four = sym h; value = refl }
padded (a ∷ b ∷ c ∷ []) some few h = record { number = sym h; four = sym h; value = refl }
padded (a ∷ b ∷ c ∷ d ∷ []) some few h = record { number = sym h; four = sym h; value = refl }
padded (a ∷ b ∷ c ∷ d ∷ e ∷ rest) some few h = absurd (omega (arith, few))
