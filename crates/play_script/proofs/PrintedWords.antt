-- Words that are printed are read back.
use Rattle.std.proofs.lemmas.Grind.{common_steps}
use Rattle.std.proofs.Common.{◌≡◌, ℕ, zero, suc, ◌/◌, ◌%◌, ◌<◌, ◌≤◌, Bool, true, false, ◌&&◌, ◌||◌, ◌^◌, eqb, ltb, not, ℤ, pos, negsuc, neg_ℤ, ◌≤ℤ◌}
use Rattle.std.proofs.Common.{List, [], ◌∷◌, length, get_or, map, Some, refl, ap, ◌∙◌, arith}
use Rattle.std.specs.Prelude.{decimal}
use Rattle.std.specs.Fmt.{signed_decimal}
use Rattle.std.specs.List.{All, list_all}
use Rattle.std.proofs.lemmas.Bool.{lt-ltb, le-leb, and_from, and_parts}
use Rattle.std.proofs.lemmas.Fmt.{digits_decimal, digits_value-decimal, decimal_nonempty, first_decimal, decimal_digit}
use Rattle.std.proofs.lemmas.List.Elements.{All-head, All-tail, All-nil, All-cons, All-get_or}
use Rattle.std.proofs.lemmas.List.Sums.{AllPass-from_list_all, list_all-from_AllPass}
use Rattle.uxn_limits.specs.declared.limits.TheConstants.{LAST_SECOND, LAST_OFFSET}
use Rattle.hex.specs.Hex.{encode_lower, encode_with, lower_digits, IsBytes}
use Rattle.hex.proofs.HexLemmas.{length-encode_with, decode_of-encode_lower, decode_sized-encode_lower}
use Rattle.text_lines.specs.declared.values.Value.{Value}
use Rattle.text_lines.specs.declared.values.Value.TheVariants.{Byte, Button, MouseButton, Player, Pixel, Turn, Seconds, Minutes}
use Rattle.text_lines.specs.ScriptLimits.{AreValues, IsBit, IsValue}
use Rattle.text_lines.specs.Named.{Named, value_named}
use Rattle.text_lines.specs.Numbers.{is_digit, is_number, number_within, integer_within, byte_of, begins_with}
use Rattle.text_lines.proofs.Numerals.{own}
use Rattle.play_script.specs.PlainText.{text_word, name_in, value_word}
use Rattle.text_lines.specs.ScriptValues.{text_of_values}
use Rattle.text_lines.specs.ScriptRows.{buttons, mouse_buttons}
use borrow.Author.Differences.{le_out, neg_is}

-- a word has bytes, and none that parts words or lines
abbrev pub is_plain : List ℕ → Bool
is_plain word = ltb 0 (length word) && list_all (λ byte. ltb 32 byte) word

-- an element of a list that passes
pub index_of : (p : ℕ → Bool) (word : List ℕ) → list_all p word ≡ true → (i : ℕ) → i < length word → p (get_or word i 0) ≡ true
index_of p word all i within = All-get_or (λ byte. p byte ≡ true) word i 0 within (AllPass-from_list_all p word all)

-- all bytes pass a weaker test too
pub weaker : (p q : ℕ → Bool) → ((byte : ℕ) → p byte ≡ true → q byte ≡ true) → (word : List ℕ) → list_all p word ≡ true → list_all q word ≡ true
weaker p q step word all = grind (arith, common_steps, list_all-from_AllPass)

-- decimal numbers
decimal_digits : (n : ℕ) → n < 2 ^ 64 → list_all is_digit (decimal n) ≡ true
decimal_digits n small = digits_decimal own n small

pub plain_decimal : (n : ℕ) → n < 2 ^ 64 → is_plain (decimal n) ≡ true
plain_decimal n small =
    and_from _ _ (lt-ltb 0 (length (decimal n)) (decimal_nonempty n small))
    (weaker is_digit (λ byte. ltb 32 byte) (λ byte digit. grind arith) (decimal n) (decimal_digits n small))

leads : (n : ℕ) → n < 2 ^ 64 → (eqb (length (decimal n)) 1 || not (eqb (get_or (decimal n) 0 0) 48)) ≡ true
leads zero small = rw (decimal_digit 0 (omega arith)) refl
leads (suc n) small = let first = first_decimal (suc n) (omega arith) small in grind arith

number_is : (n : ℕ) → n < 2 ^ 64 → is_number (decimal n) ≡ true
number_is n small = grind (arith, common_steps, and_from, decimal_digits, decimal_nonempty, leads, lt-ltb)

pub number_back : (low high n : ℕ) → low ≤ n → n ≤ high → n < 2 ^ 64 → number_within low high (decimal n) ≡ Some n
unfolding number_within
number_back low high n from to small = grind (arith, common_steps, digits_value-decimal, le-leb, number_is, own)

-- the first byte of a decimal number is no sign and no quote
digit_first : (byte : ℕ) (word : List ℕ) → list_all (λ b. ltb 47 b) word ≡ true → byte < 48 → begins_with byte word ≡ false
digit_first byte [] all low = refl
digit_first byte (first ∷ more) all low = let parts = and_parts (ltb 47 first) (list_all (λ b. ltb 47 b) more) all in grind arith

decimal_first : (byte n : ℕ) → n < 2 ^ 64 → byte < 48 → begins_with byte (decimal n) ≡ false
decimal_first byte n small low =
    digit_first byte (decimal n) (weaker is_digit (λ b. ltb 47 b) (λ b digit. grind arith) (decimal n) (decimal_digits n small)) low

begins_head : (byte : ℕ) (word : List ℕ) → begins_with byte (byte ∷ word) ≡ true
begins_head byte word = grind arith

pub integer_back : (below high : ℕ) (z : ℤ) → below < 2 ^ 63 → high < 2 ^ 63 → neg_ℤ (pos below) ≤ℤ z → z ≤ℤ pos high
    → integer_within below high (signed_decimal z) ≡ Some z
unfolding integer_within
integer_back below high (pos n) wide tall from to = grind (arith, common_steps, decimal_first, number_back)
integer_back below high (negsuc n) wide tall from to = grind (arith, common_steps, begins_head, number_back)

pub plain_signed : (below high : ℕ) (z : ℤ) → below < 2 ^ 63 → high < 2 ^ 63 → neg_ℤ (pos below) ≤ℤ z → z ≤ℤ pos high → is_plain (signed_decimal z) ≡ true
plain_signed below high (pos n) wide tall from to = plain_decimal n (omega (arith, le_out, to))
plain_signed below high (negsuc n) wide tall from to =
    and_from _ _ (lt-ltb 0 (length (45 ∷ decimal (suc n))) (omega arith))
    (and_parts _ _ (plain_decimal (suc n) (omega (arith, le_out, neg_is, from)))).1

-- hexadecimal digits
digit_high : (k : ℕ) → k < 16 → ltb 47 (get_or lower_digits k 0) ≡ true
digit_high k within = index_of (λ b. ltb 47 b) lower_digits refl k within

pairs_high : (bytes : List ℕ) → All (λ byte. byte < 256) bytes → list_all (λ b. ltb 47 b) (encode_lower bytes) ≡ true
unfolding encode_with
pairs_high [] small = refl
pairs_high (byte ∷ bytes) small =
    let here = All-head (λ b. b < 256) byte bytes small in
    and_from _ _ (digit_high (byte / 16) (omega arith)) (and_from _ _ (digit_high (byte % 16) (omega arith)) (pairs_high bytes (All-tail (λ b. b < 256) byte bytes small)))

pub plain_pairs : (bytes : List ℕ) → 0 < length bytes → All (λ byte. byte < 256) bytes → is_plain (encode_lower bytes) ≡ true
plain_pairs bytes some small =
    and_from _ _ (lt-ltb 0 (length (encode_lower bytes)) (omega (arith, length-encode_with lower_digits bytes)))
    (weaker (λ b. ltb 47 b) (λ b. ltb 32 b) (λ b high. grind arith) (encode_lower bytes) (pairs_high bytes small))

are_bytes : (bytes : List ℕ) → All (λ byte. byte < 256) bytes → IsBytes bytes
are_bytes bytes small i = grind (arith, common_steps)

pub pairs_back : (bytes : List ℕ) → All (λ byte. byte < 256) bytes → text_of_values (encode_lower bytes) ≡ Some bytes
unfolding text_of_values
pairs_back bytes small = grind (arith, common_steps, are_bytes, decode_of-encode_lower, digit_first, pairs_high)

text_word_is : (byte : ℕ) (bytes : List ℕ) → text_word (byte ∷ bytes) ≡ encode_lower (byte ∷ bytes)
text_word_is byte bytes = let filled : eqb (length (byte ∷ bytes)) 0 ≡ false = grind arith in rw filled refl

pub text_back : (bytes : List ℕ) → All (λ byte. byte < 256) bytes → text_of_values (text_word bytes) ≡ Some bytes
unfolding text_of_values
text_back [] small = refl
text_back (byte ∷ bytes) small = ap text_of_values (text_word_is byte bytes) ∙ pairs_back (byte ∷ bytes) small

pub plain_text_word : (bytes : List ℕ) → All (λ byte. byte < 256) bytes → is_plain (text_word bytes) ≡ true
plain_text_word [] small = refl
plain_text_word (byte ∷ bytes) small = ap is_plain (text_word_is byte bytes) ∙ plain_pairs (byte ∷ bytes) (omega arith) small

pub one_byte : (byte : ℕ) → byte < 256 → All (λ b. b < 256) (byte ∷ [])
one_byte byte small = All-cons (λ b. b < 256) byte [] small (All-nil (λ b. b < 256))

pub byte_back : (byte : ℕ) → byte < 256 → byte_of (encode_lower (byte ∷ [])) ≡ Some byte
unfolding byte_of
byte_back byte small = rw (decode_sized-encode_lower (byte ∷ []) 1 refl (are_bytes (byte ∷ []) (one_byte byte small))) refl

-- a button's name is read back, and is a plain word
abbrev pub IsScriptRead : Named ℕ → ℕ → Type 0
IsScriptRead table mask = (value_named table (name_in table mask) ≡ Some mask) × (is_plain (name_in table mask) ≡ true)

pub button_back : (mask : ℕ) → IsBit mask → IsScriptRead buttons mask
unfolding value_named name_in
button_back = grind (arith, common_steps)

pub mouse_button_back : (mask : ℕ) → IsBit mask → IsScriptRead mouse_buttons mask
unfolding value_named name_in
mouse_button_back = grind (arith, common_steps)

-- the words of values are plain
plain_value : (value : Value) → IsValue value → is_plain (value_word value) ≡ true
unfolding value_word
plain_value (Byte byte) is = plain_pairs (byte ∷ []) (omega arith) (one_byte byte is)
plain_value (Button mask) is = (button_back mask is).1
plain_value (MouseButton mask) is = (mouse_button_back mask is).1
plain_value (Player number) is = plain_decimal number (omega (arith, is.1))
plain_value (Pixel at) is = plain_decimal at (omega (arith, is))
plain_value (Turn steps) is = plain_signed 32768 32767 steps (omega arith) (omega arith) is.0 is.1
plain_value (Seconds seconds) is = plain_signed 0 LAST_SECOND seconds (omega arith) (omega arith) is.0 is.1
plain_value (Minutes minutes) is = plain_signed LAST_OFFSET LAST_OFFSET minutes (omega arith) (omega arith) is.0 is.1

pub plain_values : (values : List Value) → AreValues values → list_all is_plain (map value_word values) ≡ true
plain_values [] is = refl
plain_values (value ∷ values) is = and_from _ _ (plain_value value is.0) (plain_values values is.1)
