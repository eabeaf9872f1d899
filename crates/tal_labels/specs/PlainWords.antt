-- Plain words that are opcodes, bytes and shorts, one behind the other from the address 0100 on.
use Rattle.std.specs.Prelude.{◌≡◌, ℕ, ◌+◌, Bool, true, false, List, [], ◌∷◌, codes, length, map, Ok}
use Rattle.std.specs.List.{flat_map}
use Rattle.tal_words.specs.declared.form.Form.{Form}
use Rattle.tal_words.specs.declared.form.Form.TheVariants.{Op, Raw1, Raw2}
use Rattle.tal_words.specs.Forms.{form, encoded}
use Rattle.tal_words.specs.PlainTexts.{IsPlainWord}
use Rattle.uxn_limits.specs.declared.addresses.TheConstants.{FIRST_ADDRESS}

-- a word: its text, and the bytes that it represents
pub record Coded : Type 0 where
  pub text : List ℕ
  pub bytes : List ℕ

abbrev pub texts_of_coded : List Coded → List (List ℕ)
texts_of_coded words = map (λ word. word.text) words

abbrev pub bytes_of_coded : List Coded → List ℕ
bytes_of_coded words = flat_map (λ word. word.bytes) words

-- `|0100`
abbrev pub pad_text : List ℕ
pad_text = codes "|0100"

-- an opcode, a byte or a short
abbrev pub is_bare_form : Form → Bool
is_bare_form (Op byte) = true
is_bare_form (Raw1 byte) = true
is_bare_form (Raw2 short) = true
is_bare_form _ = false

-- a plain word of such a form represents the bytes of the form, wherever it stands
pub record RepresentsWord (word : Coded) : Type 0 where
  pub plain : IsPlainWord word.text
  pub shape : Form
  pub formed : form word.text ≡ Ok shape
  pub bare : is_bare_form shape ≡ true
  pub encodes : encoded shape word.text 0 0 ≡ word.bytes

-- the addresses of such words, with so many bytes before the first
abbrev pub addresses_from : ℕ → List Coded → List ℕ
addresses_from count [] = []
addresses_from count (word ∷ words) = (FIRST_ADDRESS + count) ∷ addresses_from (count + length word.bytes) words
