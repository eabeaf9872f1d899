-- The name of each byte is a plain word, and its form is this opcode.
use Rattle.std.proofs.Common.{◌≡◌, ℕ, ◌<◌, Bool, true, false, not, List, length, Result, Ok, refl, arith}
use Rattle.std.specs.Prelude.{◌&&◌, ◌==◌, nat_lt, nat_le}
use Rattle.std.specs.List.{list_any}
use Rattle.std.proofs.lemmas.Bool.{and_parts, not-true, ltb-true, leb-true}
use Rattle.std.proofs.lemmas.Bool.Decides.{nat_tests}
use Rattle.uxn_limits.specs.declared.limits.TheConstants.{WORD_LIMIT}
use Rattle.tal_words.specs.declared.fault.FaultKind.{FaultKind}
use Rattle.tal_words.specs.declared.form.Form.{Form}
use Rattle.tal_words.specs.declared.form.Form.TheVariants.{Op}
use Rattle.tal_words.specs.Source.{is_blank, begins}
use Rattle.tal_words.specs.Forms.{form}
use Rattle.uxn_opcodes.specs.Table.{mode_of}
use Rattle.tal_words.specs.Opcodes.{name_of_op, byte_of_op}
use Rattle.tal_words.specs.Braces.{opens, closes}
use Rattle.tal_words.specs.PlainTexts.{IsPlainWord}
use Rattle.tal_words.proofs.Operations.{passes_below-at}

-- the form is this opcode
abbrev is_opcode : Result Form FaultKind → ℕ → Bool
is_opcode (Ok (Op found)) byte = found == byte
is_opcode answer byte = false

opcode-is : (answer : Result Form FaultKind) (byte : ℕ) → is_opcode answer byte ≡ true → answer ≡ Ok (Op byte)
opcode-is answer byte e = grind (arith, nat_tests)

-- what is known of a word of an instruction, as a test
abbrev is_plain_word : List ℕ → Bool
is_plain_word text =
    nat_lt 0 (length text) && not (list_any is_blank text) && not (begins 40 text) && not (begins 41 text) && nat_le (length text) WORD_LIMIT
    && not (begins 37 text) && not (opens text) && not (closes text)

plain_word : (text : List ℕ) → is_plain_word text ≡ true → IsPlainWord text
plain_word text e =
    let p7 = and_parts _ _ e in
    let p6 = and_parts _ _ p7.0 in
    let p5 = and_parts _ _ p6.0 in
    let p4 = and_parts _ _ p5.0 in
    let p3 = and_parts _ _ p4.0 in
    let p2 = and_parts _ _ p3.0 in
    let p1 = and_parts _ _ p2.0 in
    record {
      some = ltb-true 0 (length text) p1.0;
      short = leb-true (length text) WORD_LIMIT p4.1;
      blank_free = not-true _ p1.1;
      no_comment = not-true _ p2.1;
      no_paren = not-true _ p3.1;
      no_head = not-true _ p5.1;
      unopened = not-true _ p6.1;
      unclosed = not-true _ p7.1;
    }

-- the name of each byte
abbrev is_named : ℕ → Bool
is_named byte = is_plain_word (name_of_op byte) && is_opcode (form (name_of_op byte)) byte

named_parts : (byte : ℕ) → byte < 256 → (is_plain_word (name_of_op byte) ≡ true) × (is_opcode (form (name_of_op byte)) byte ≡ true)
unfolding name_of_op form byte_of_op mode_of
named_parts byte below = and_parts _ _ (passes_below-at is_named 256 byte refl below)

pub name_plain : (byte : ℕ) → byte < 256 → IsPlainWord (name_of_op byte)
name_plain byte below = plain_word (name_of_op byte) (named_parts byte below).0

pub form-name : (byte : ℕ) → byte < 256 → form (name_of_op byte) ≡ Ok (Op byte)
form-name byte below = opcode-is (form (name_of_op byte)) byte (named_parts byte below).1
