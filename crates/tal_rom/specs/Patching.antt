-- Words that are added one by one, as their bytes stand in memory at each moment (profile).
use Rattle.std.specs.Prelude.{ℕ, ◌+◌, Bool, true, false, not, ◌||◌, if◌then◌else◌, List, [], length, map}
use Rattle.std.specs.Prelude.{Option, Some, None, unwrap_or}
use Rattle.std.specs.List.{filter, list_any, range_with_len}
use Rattle.tal_words.specs.declared.form.Form.{Form}
use Rattle.tal_words.specs.declared.form.Form.TheVariants.{Refer}
use Rattle.tal_words.specs.declared.name.Label.{Label}
use Rattle.tal_words.specs.declared.span.Expanded.{Expanded}
use Rattle.tal_words.specs.Forms.{encoded, reaches}
use Rattle.tal_words.specs.Order.{each}
use Rattle.tal_words.specs.Source.{expanded_text}
use Rattle.tal_labels.specs.declared.placed.PlacedWord.{PlacedWord}
use Rattle.tal_labels.specs.Labels.{labels_of}
use Rattle.uxn_limits.specs.declared.addresses.TheConstants.{FIRST_ADDRESS}
use Rattle.tal_labels.specs.Placing.{placed_of}
use Rattle.tal_rom.specs.References.{target_of}
use Rattle.tal_rom.specs.Rom.{Piece, byte_at, rom_limit}

-- a word with its address, and with its target where that is defined
pub record Added : Type 0 where
  pub form : Form
  pub text : List ℕ
  pub address : ℕ
  pub target : Option ℕ

-- a reference waits where it has no target
abbrev pub waits_by : Form → Option ℕ → Bool
waits_by (Refer rune) None = true
waits_by _ target = false

abbrev pub waits : Added → Bool
waits word = waits_by word.form word.target

-- a relative byte does not fit where its target is too far
abbrev pub is_far_by : Form → ℕ → Option ℕ → Bool
is_far_by (Refer rune) address (Some target) = not (reaches rune address target)
is_far_by _ address target = false

abbrev pub is_far : Added → Bool
is_far word = is_far_by word.form word.address word.target

-- the bytes of a word that does not wait and that fits
abbrev pub known_piece : Added → Piece
known_piece word = record {
  address = word.address;
  bytes = if waits word || is_far word then [] else encoded word.form word.text word.address (unwrap_or word.target 0);
}

module _ (source : List ℕ) where
  abbrev pub added_given : List Label → List PlacedWord → PlacedWord → List PlacedWord → Added
  added_given labels before placed after = record {
    form = placed.form;
    text = expanded_text source placed.word;
    address = placed.address;
    target = target_of source labels before placed;
  }

  -- the words, each with the target that these words define
  unfoldable pub added_of : List Expanded → List Added
  added_of words = each (added_given (labels_of source words)) [] (placed_of source words)

  -- how many of the words wait
  unfoldable pub waiting_count : List Expanded → ℕ
  waiting_count words = length (filter waits (added_of words))

  -- each word that does not wait fits
  unfoldable pub all_fit : List Expanded → Bool
  all_fit words = not (list_any is_far (added_of words))

  -- the bytes at the addresses 0100 to ffff
  unfoldable pub image_of : List Expanded → List ℕ
  image_of words = map (λ i. byte_at (map known_piece (added_of words)) (FIRST_ADDRESS + i)) (range_with_len 0 rom_limit)
