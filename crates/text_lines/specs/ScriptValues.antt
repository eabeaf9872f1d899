-- What the words behind a line's first word represent (profile). A word is never empty.
use Rattle.std.specs.Prelude.{ℕ, List, [], ◌∷◌, drop, if◌then◌else◌, Option, Some, None, option_map}
use Rattle.std.specs.Result.{result_ok}
use Rattle.std.specs.Option.{option_zip}
use Rattle.hex.specs.Hex.{decode_of}
use Rattle.text_lines.specs.Numbers.{begins_with, number_within}

-- `"` and bytes that represent themselves, or pairs of hexadecimal digits of either case
unfoldable pub text_of_values : List ℕ → Option (List ℕ)
text_of_values word = if begins_with 34 word then Some (drop 1 word) else result_ok (decode_of word)

-- the texts of all words, where each of them is one
abbrev pub texts_of_values : List (List ℕ) → Option (List (List ℕ))
texts_of_values [] = Some []
texts_of_values (word ∷ words) = option_map (λ both. both.0 ∷ both.1) (option_zip (text_of_values word) (texts_of_values words))

-- a number, which is 1 where it is left out
unfoldable pub one_or : ℕ → List (List ℕ) → Option ℕ
one_or most [] = Some 1
one_or most (word ∷ more) = number_within 1 most word

-- the first two words
abbrev pub two_words : List (List ℕ) → Option (List ℕ × List ℕ)
two_words (first ∷ second ∷ more) = Some (first, second)
two_words _ = None
