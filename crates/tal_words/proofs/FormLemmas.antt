-- The bytes of forms.
use Rattle.std.proofs.Common.{◌≡◌, ℕ, List, length, arith}
use Rattle.tal_words.specs.declared.form.Form.{Form}
use Rattle.tal_words.specs.declared.form.Rune.{Rune}
use Rattle.tal_words.specs.Forms.{size, encoded, encoded_reference}

-- a reference has as many bytes wherever it stands
pub length-encoded_reference : (rune : Rune) (address target : ℕ) → length (encoded_reference rune address target) ≡ length (encoded_reference rune 0 0)
length-encoded_reference rune address target = grind arith

-- a word has as many bytes as its size says
pub length-encoded : (form : Form) (word : List ℕ) (address target : ℕ) → length (encoded form word address target) ≡ size form word
length-encoded form word address target = grind (arith, length-encoded_reference)
