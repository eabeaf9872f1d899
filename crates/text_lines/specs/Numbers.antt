-- The numbers that words spell (profile). A word is never empty.
use Rattle.std.specs.Prelude.{ℕ, Bool, not, ◌&&◌, ◌||◌, ◌==◌, nat_lt, nat_le, if◌then◌else◌, ℤ, pos, neg_ℤ}
use Rattle.std.specs.Prelude.{List, drop, length, slice_index, Option, Some, None, option_map}
use Rattle.std.specs.Result.{result_ok}
use Rattle.std.specs.List.{list_all}
use Rattle.std.specs.Str.Parse.{digits_value}
use Rattle.hex.specs.Hex.{decode_sized}

abbrev pub is_digit : ℕ → Bool
is_digit byte = nat_le 48 byte && nat_le byte 57

-- a decimal number has no leading zero but 0 itself
abbrev pub is_number : List ℕ → Bool
is_number word = nat_lt 0 (length word) && list_all is_digit word && (length word == 1 || not (slice_index word 0 == 48))

-- a number from low to high
unfoldable pub number_within : ℕ → ℕ → List ℕ → Option ℕ
number_within low high word =
    if is_number word && nat_le low (digits_value 10 word) && nat_le (digits_value 10 word) high
    then Some (digits_value 10 word) else None

-- the word begins with this byte
abbrev pub begins_with : ℕ → List ℕ → Bool
begins_with byte word = nat_lt 0 (length word) && slice_index word 0 == byte

-- a number from -below to high; `-` stands before the digits of one below 0
unfoldable pub integer_within : ℕ → ℕ → List ℕ → Option ℤ
integer_within below high word =
    if begins_with 45 word then option_map (λ n. neg_ℤ (pos n)) (number_within 0 below (drop 1 word))
    else option_map pos (number_within 0 high word)

-- two hexadecimal digits of either case
unfoldable pub byte_of : List ℕ → Option ℕ
byte_of word = option_map (λ bytes. slice_index bytes 0) (result_ok (decode_sized word 1))
