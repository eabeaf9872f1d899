-- Numbers in words are lowercase hexadecimal (Uxntal syntax reference).
use Rattle.std.specs.Prelude.{ℕ, ◌+◌, ◌-◌, ◌*◌, Bool, ◌&&◌, ◌||◌, ◌==◌, nat_lt, nat_le}
use Rattle.std.specs.Prelude.{if◌then◌else◌, List, length, fold}
use Rattle.std.specs.List.{list_all}

-- `0` to `9` are 48 to 57, and `a` to `f` are 97 to 102
abbrev pub is_digit : ℕ → Bool
is_digit byte = nat_le 48 byte && nat_le byte 57 || nat_le 97 byte && nat_le byte 102

abbrev pub digit_value : ℕ → ℕ
digit_value byte = if nat_le byte 57 then byte - 48 else byte - 87

-- every byte is a digit
abbrev pub are_digits : List ℕ → Bool
are_digits text = list_all is_digit text

-- the number that the digits spell
abbrev pub number_of_digits : List ℕ → ℕ
number_of_digits text = fold (λ number digit. 16 * number + digit_value digit) 0 text

-- the text is two digits, or four
abbrev pub is_byte_number : List ℕ → Bool
is_byte_number text = length text == 2 && are_digits text

abbrev pub is_short_number : List ℕ → Bool
is_short_number text = length text == 4 && are_digits text

-- the text is one to four digits
abbrev pub is_address_number : List ℕ → Bool
is_address_number text = nat_lt 0 (length text) && nat_le (length text) 4 && are_digits text
