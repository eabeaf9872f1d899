-- Where the words lie (Uxntal syntax reference).
use Rattle.std.specs.Prelude.{ℕ, ◌+◌, List, [], ◌∷◌, Option, Some, None, is_some, unwrap_or, Result, Ok, Err}
use Rattle.std.specs.Prelude.{if◌then◌else◌}
use Rattle.uxn_limits.specs.declared.addresses.TheConstants.{FIRST_ADDRESS}
use Rattle.tal_words.specs.declared.span.Expanded.{Expanded}
use Rattle.tal_words.specs.declared.fault.FaultKind.{FaultKind}
use Rattle.tal_words.specs.declared.form.Form.{Form}
use Rattle.tal_words.specs.declared.form.Form.TheVariants.{Pad, Skip}
use Rattle.tal_words.specs.Source.{expanded_text}
use Rattle.tal_words.specs.Forms.{form, size}
use Rattle.tal_words.specs.Order.{each, last_of}

-- the value of a pad
abbrev pub pad_value : Result Form FaultKind → Option ℕ
pad_value (Ok (Pad value)) = Some value
pad_value _ = None

-- how far a word moves the address: a skip by its number, any other word by its size
abbrev pub form_moves : Form → List ℕ → ℕ
form_moves (Skip length) text = length
form_moves other text = size other text

abbrev pub moves : Result Form FaultKind → List ℕ → ℕ
moves (Ok shape) text = form_moves shape text
moves (Err kind) text = 0

module _ (source : List ℕ) where
  -- the value of the last pad of some words
  abbrev pub last_pad : List Expanded → Option ℕ
  last_pad words = last_of (λ word. pad_value (form (expanded_text source word))) words

  -- how far the words after the last pad move the address
  abbrev pub moved_since_pad : List Expanded → ℕ
  moved_since_pad [] = 0
  moved_since_pad (word ∷ words) =
      if is_some (last_pad words) then moved_since_pad words
      else moves (form (expanded_text source word)) (expanded_text source word) + moved_since_pad words

  -- the address of a word by the words before it: the value of the last pad, and how far the words since then move it
  unfoldable pub address_after : List Expanded → ℕ
  address_after before = unwrap_or (last_pad before) FIRST_ADDRESS + moved_since_pad before

  -- the addresses of words
  unfoldable pub addresses_of : List Expanded → List ℕ
  addresses_of words = each (λ before word after. address_after before) [] words
