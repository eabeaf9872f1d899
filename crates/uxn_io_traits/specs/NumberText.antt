-- Numbers as text.
use Rattle.std.specs.Prelude.{ℕ, ◌/◌, ◌%◌, List, [], ◌∷◌, ◌++◌, codes, slice_index}

-- the digit of a number below 16, with lowercase letters
abbrev pub hex_digit : ℕ → ℕ
hex_digit n = slice_index (codes "0123456789abcdef") n

-- a byte as two hexadecimal digits
abbrev pub hex_of_byte : ℕ → List ℕ
hex_of_byte value = hex_digit (value / 16) ∷ hex_digit (value % 16) ∷ []

-- a short as four hexadecimal digits: its high byte, then its low byte
abbrev pub hex_of_short : ℕ → List ℕ
hex_of_short value = hex_of_byte (value / 256) ++ hex_of_byte (value % 256)
