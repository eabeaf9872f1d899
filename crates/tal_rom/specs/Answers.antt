-- What the steps of the assembling answer.
use Rattle.std.specs.Prelude.{ℕ, ◌≡◌, ◌<◌, List, length, slice_index_or, true, false}
use Rattle.tal_words.specs.declared.form.Form.{Form}
use Rattle.tal_words.specs.declared.form.Form.TheVariants.{Refer}
use Rattle.tal_words.specs.declared.name.Label.{Label}
use Rattle.tal_labels.specs.declared.placed.PlacedWord.{PlacedWord}
use Rattle.uxn_limits.specs.declared.addresses.TheConstants.{MEMORY_END}
use Rattle.tal_rom.specs.Rom.{Piece, pieces_of, covers}

-- the address of a reference lies in memory
abbrev pub HasAddress : Form → ℕ → Type 0
HasAddress (Refer rune) address = address < MEMORY_END
HasAddress _ address = Unit {0}

-- at most one of the words covers an address, and each of them has as many bytes as its size says
pub record CoverOnce (source : List ℕ) (labels : List Label) (words : List PlacedWord) : Type 0 where
  pub once : (address i k : ℕ) (other : Piece) → i < k → k < length words
      → covers address (slice_index_or (pieces_of source labels words) i other) ≡ true
      → covers address (slice_index_or (pieces_of source labels words) k other) ≡ false
  pub sized : (k : ℕ) (word : PlacedWord) (piece : Piece) → k < length words
      → length (slice_index_or (pieces_of source labels words) k piece).bytes ≡ (slice_index_or words k word).size
