-- The listing of an assembly (profile).
use Rattle.std.specs.Prelude.{◌≡◌, ℕ, ◌+◌, ◌-◌, ◌<◌, nat_lt, List, ◌∷◌, ◌++◌, codes, length, map}
use Rattle.std.specs.Prelude.{filter, slice_index, slice_index_or, decimal}
use Rattle.std.specs.List.{flat_map, range_with_len}
use Rattle.tal_words.specs.declared.span.Word.{Word}
use Rattle.tal_words.specs.Source.{bytes_at}
use Rattle.uxn_io_traits.specs.NumberText.{hex_of_byte, hex_of_short}
use Rattle.tal_labels.specs.declared.placed.PlacedWord.{PlacedWord}
use Rattle.tal_rom.specs.Program.{Program}
use Rattle.tal_rom.specs.Rom.{Piece, pieces_of}
use Rattle.tal_rom.specs.Assembly.{layout, rom_of}
use Rattle.tal_listing.specs.Texts.{text_of_lines}

-- so many bytes of memory from an address on; those behind the ROM are 0
abbrev pub memory_bytes : List ℕ → ℕ → ℕ → List ℕ
memory_bytes rom address count = map (λ i. slice_index rom (address - 256 + i)) (range_with_len 0 count)

-- bytes as digits, each with a space before it
abbrev pub spaced_bytes : List ℕ → List ℕ
spaced_bytes bytes = flat_map (λ byte. 32 ∷ hex_of_byte byte) bytes

-- the line and the column of a word of the source; 58 is `:`
abbrev pub position_text : Word → List ℕ
position_text word = decimal word.line ++ 58 ∷ decimal word.column

-- the line of a word: its address, its bytes, where the source has the word from which it came, and the word itself
abbrev pub word_line : List ℕ → List ℕ → PlacedWord → List ℕ
word_line source rom placed =
    hex_of_short placed.address ++ spaced_bytes (memory_bytes rom placed.address placed.size)
    ++ codes "  " ++ position_text placed.word.origin ++ 32 ∷ bytes_at source placed.word.text

-- the listing of an assembly of a source: a line for each word that has bytes, in order
unfoldable pub listing_of : List ℕ → Program → List ℕ
listing_of source program = text_of_lines (map (word_line source program.rom) (filter (λ placed. nat_lt 0 placed.size) program.places))

-- each word of a source has in memory, as its ROM has it, the bytes that it represents
pub record HoldsItsWords (source : List ℕ) : Type 0 where
  pub each : (k : ℕ) (word : PlacedWord) (piece : Piece) → k < length (layout source).words
      → memory_bytes (rom_of source) (slice_index_or (layout source).words k word).address
      (slice_index_or (layout source).words k word).size
      ≡ (slice_index_or (pieces_of source (layout source).labels (layout source).words) k piece).bytes
