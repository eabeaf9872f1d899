-- What each word means, and the bytes that it represents (Uxntal syntax reference).
use Rattle.std.specs.Prelude.{ℕ, ◌+◌, ◌-◌, ◌/◌, ◌%◌, Bool, true, ◌&&◌, ◌||◌, ◌==◌, nat_le}
use Rattle.std.specs.Prelude.{if◌then◌else◌, List, [], ◌∷◌, length, drop, Result, Ok, Err}
use Rattle.std.specs.Option.{option_map_or}
use Rattle.tal_words.specs.declared.fault.FaultKind.{FaultKind}
use Rattle.tal_words.specs.declared.fault.FaultKind.TheVariants.{BadNumber, BadName, NoName, IncludeHere}
use Rattle.tal_words.specs.declared.form.Form.{Form}
use Rattle.tal_words.specs.declared.form.Form.TheVariants.{Pad, Skip, Lit1, Lit2, Raw1, Raw2, Op, Text, LabelDef, SubDef, Refer}
use Rattle.tal_words.specs.declared.form.Form.TheVariants.{LambdaEnd, Ignored}
use Rattle.tal_words.specs.declared.form.Rune.{Rune}
use Rattle.tal_words.specs.declared.form.Rune.TheVariants.{LitRel, RawRel, LitZero, RawZero, LitAbs, RawAbs, Jmi, Jci, Jsi}
use Rattle.tal_words.specs.Opcodes.{byte_of_op}
use Rattle.tal_words.specs.Digits.{number_of_digits, is_byte_number, is_short_number, is_address_number}
use Rattle.tal_words.specs.Names.{name_fault, rune_of, slash}

-- the form of a word that must have more than its first character
abbrev pub unless_empty : List ℕ → Result Form FaultKind → Result Form FaultKind
unless_empty [] answer = Err NoName
unless_empty (first ∷ rest) answer = answer

-- the form of a word that must have its first character alone
abbrev pub if_alone : List ℕ → Form → Result Form FaultKind
if_alone [] form = Ok form
if_alone (first ∷ rest) form = Err BadName

-- `|h` and `$h`
abbrev pub address_number : List ℕ → Form → Result Form FaultKind
address_number digits form = if is_address_number digits then Ok form else Err BadNumber

-- `#hh` and `#hhhh`
abbrev pub literal_form : List ℕ → Result Form FaultKind
literal_form digits =
    if is_byte_number digits then Ok (Lit1 (number_of_digits digits))
    else if is_short_number digits then Ok (Lit2 (number_of_digits digits))
    else Err BadNumber

-- what stands after the rune of a reference: `&c`, `/c`, `{` alone, or a name
abbrev pub reference : Rune → List ℕ → Result Form FaultKind
reference rune [] = Err NoName
reference rune (first ∷ rest) =
    if first == 38 || first == slash then unless_empty rest (Ok (Refer rune))
    else if first == 123 then if_alone rest (Refer rune)
    else Ok (Refer rune)

-- a word without a rune: a number, an opcode word or the name of a subroutine
abbrev pub bare : List ℕ → Form
bare word =
    if is_byte_number word then Raw1 (number_of_digits word)
    else if is_short_number word then Raw2 (number_of_digits word)
    else option_map_or Op (byte_of_op word) (Refer Jsi)

-- the form of a word by its first character, in this order: `|` `$` `#` `"` `@` `&` `~` `/` `{` `}` `[` `]`, and others
unfoldable pub form : List ℕ → Result Form FaultKind
form [] = Ok (Refer Jsi)
form (first ∷ rest) =
    if first == 124 then address_number rest (Pad (number_of_digits rest))
    else if first == 36 then address_number rest (Skip (number_of_digits rest))
    else if first == 35 then literal_form rest
    else if first == 34 then Ok Text
    else if first == 64 then option_map_or Err (name_fault rest) (Ok LabelDef)
    else if first == 38 then unless_empty rest (Ok SubDef)
    else if first == 126 then unless_empty rest (Err IncludeHere)
    else if first == slash then unless_empty rest (Ok (Refer Jsi))
    else if first == 123 then if_alone rest (Refer Jsi)
    else if first == 125 then if_alone rest LambdaEnd
    else if first == 91 then if_alone rest Ignored
    else if first == 93 then if_alone rest Ignored
    else option_map_or (λ rune. reference rune rest) (rune_of first) (Ok (bare (first ∷ rest)))

abbrev pub low_byte : ℕ → ℕ
low_byte n = n % 256

-- a short, the high byte first
abbrev pub short_bytes : ℕ → List ℕ
short_bytes n = n / 256 % 256 ∷ n % 256 ∷ []

-- the distance from an address to a target, less 2, with 131072 added, which is 0 modulo 65536
abbrev pub distance : ℕ → ℕ → ℕ
distance address target = target + 131072 - (address + 2)

-- the distance, less 2, lies in -128 to 127
abbrev pub is_near : ℕ → ℕ → Bool
is_near address target = nat_le (address + 2) (target + 128) && nat_le target (address + 129)

-- the bytes of a reference at an address; 128 is LIT, 160 LIT2, 64 JMI, 32 JCI, 96 JSI
abbrev pub encoded_reference : Rune → ℕ → ℕ → List ℕ
encoded_reference LitRel address target = 128 ∷ low_byte (distance (address + 1) target) ∷ []
encoded_reference RawRel address target = low_byte (distance address target) ∷ []
encoded_reference LitZero address target = 128 ∷ low_byte target ∷ []
encoded_reference RawZero address target = low_byte target ∷ []
encoded_reference LitAbs address target = 160 ∷ short_bytes target
encoded_reference RawAbs address target = short_bytes target
encoded_reference Jmi address target = 64 ∷ short_bytes (distance (address + 1) target)
encoded_reference Jci address target = 32 ∷ short_bytes (distance (address + 1) target)
encoded_reference Jsi address target = 96 ∷ short_bytes (distance (address + 1) target)

-- a reference that holds a byte reaches its target
abbrev pub reaches : Rune → ℕ → ℕ → Bool
reaches LitRel address target = is_near (address + 1) target
reaches RawRel address target = is_near address target
reaches _ address target = true

-- the bytes of a word of a form, at an address and with a target if it is a reference
abbrev pub encoded : Form → List ℕ → ℕ → ℕ → List ℕ
encoded (Lit1 n) word address target = 128 ∷ n ∷ []
encoded (Lit2 n) word address target = 160 ∷ short_bytes n
encoded (Raw1 n) word address target = n ∷ []
encoded (Raw2 n) word address target = short_bytes n
encoded (Op byte) word address target = byte ∷ []
encoded Text word address target = drop 1 word
encoded (Refer rune) word address target = encoded_reference rune address target
encoded _ word address target = []

-- how many bytes a word of a form represents, at any address and with any target
abbrev pub size : Form → List ℕ → ℕ
size form word = length (encoded form word 0 0)
