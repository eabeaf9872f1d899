-- What a decimal word is to std's words for numerals.
use Rattle.std.proofs.lemmas.Grind.{common_steps}
use Rattle.std.proofs.Common.{◌≡◌, ℕ, ◌<◌, true, cond, ltb, List, length, Result, Ok, Err, Some, None, arith, rules}
use Rattle.std.proofs.lemmas.Bool.{cases_lt}
use Rattle.std.specs.List.{list_all}
use Rattle.std.specs.Result.{result_ok}
use Rattle.std.specs.Str.{IsUtf8}
use Rattle.std.specs.Str.Parse.{digits_value, ParsesUnsigned}
use Rattle.std.proofs.lemmas.Fmt.{IsAscii-from_digits}
use Rattle.std.proofs.lemmas.Str.{IsUtf8-from_ascii}
use Rattle.std.proofs.lemmas.Str.Parse.{IsNumeralModel, IsDigitsTest, numerals_by_value, parse_digits}
use Rattle.text_lines.specs.Numbers.{is_digit, is_number}

tells : IsDigitsTest (λ ds. list_all is_digit ds ≡ true)
tells = search rules

pub own : IsNumeralModel (λ ds. list_all is_digit ds ≡ true) (digits_value 10)
own = numerals_by_value (λ ds. list_all is_digit ds ≡ true) tells

pub some_digits : (word : List ℕ) → is_number word ≡ true → 0 < length word
some_digits word number = grind arith

pub all_digits : (word : List ℕ) → is_number word ≡ true → list_all is_digit word ≡ true
all_digits word number = grind arith

pub is_text : (word : List ℕ) → is_number word ≡ true → IsUtf8 word
is_text word number = IsUtf8-from_ascii word (IsAscii-from_digits word (own.to word (all_digits word number)))

pub parsed : {E : Type 0} (word : List ℕ) (answer : Result ℕ E) → is_number word ≡ true → ParsesUnsigned 64 10 word answer
    → result_ok answer ≡ cond (ltb (digits_value 10 word) 18446744073709551616) (Some (digits_value 10 word)) None
parsed {E} word (Ok n) number parses = grind (arith, common_steps)
parsed {E} word (Err e) number parses = grind (arith, common_steps, all_digits, cases_lt, own, parse_digits, some_digits)
