-- The bytes in memory (Uxntal syntax reference; profile: the ROM ends at its last byte that is not 0).
use Rattle.std.specs.Prelude.{ℕ, ◌+◌, ◌-◌, ◌==◌, Bool, ◌&&◌, nat_lt, nat_le, if◌then◌else◌, List, []}
use Rattle.std.specs.Prelude.{◌∷◌, length, map, find, slice_index, Option, Some, None, unwrap_or}
use Rattle.std.specs.List.{range_with_len}
use Rattle.uxn_limits.specs.declared.limits.TheConstants.{BANK_ROM_LIMIT}
use Rattle.tal_words.specs.declared.name.Label.{Label}
use Rattle.tal_words.specs.Forms.{encoded}
use Rattle.tal_labels.specs.declared.placed.PlacedWord.{PlacedWord}
use Rattle.uxn_limits.specs.declared.addresses.TheConstants.{FIRST_ADDRESS}
use Rattle.tal_words.specs.Order.{each}
use Rattle.tal_words.specs.Source.{expanded_text}
use Rattle.tal_rom.specs.References.{target_of}

-- the bytes of a word, and the address of the first of them
pub record Piece : Type 0 where
  pub address : ℕ
  pub bytes : List ℕ

-- a word covers the addresses from its own up to that plus the number of its bytes
abbrev pub covers : ℕ → Piece → Bool
covers address piece = nat_le piece.address address && nat_lt address (piece.address + length piece.bytes)

-- the byte at an address is that of the word that covers it, and 0 where none does
abbrev pub byte_of_piece : ℕ → Option Piece → ℕ
byte_of_piece address (Some piece) = slice_index piece.bytes (address - piece.address)
byte_of_piece address None = 0

unfoldable pub byte_at : List Piece → ℕ → ℕ
byte_at pieces address = byte_of_piece address (find (covers address) pieces)

-- a byte before bytes of which the zeros at the end are gone
abbrev pub before_trimmed : ℕ → List ℕ → List ℕ
before_trimmed byte [] = if byte == 0 then [] else byte ∷ []
before_trimmed byte (next ∷ rest) = byte ∷ next ∷ rest

-- without the zeros at its end
unfoldable pub trimmed : List ℕ → List ℕ
trimmed [] = []
trimmed (byte ∷ rest) = before_trimmed byte (trimmed rest)

-- the greatest length of a ROM
abbrev pub rom_limit : ℕ
rom_limit = BANK_ROM_LIMIT

-- the ROM: the bytes at the addresses 0100 to ffff, up to the last one that is not 0
unfoldable pub rom_image : List Piece → List ℕ
rom_image pieces = trimmed (map (λ i. byte_at pieces (FIRST_ADDRESS + i)) (range_with_len 0 rom_limit))

module _ (source : List ℕ) (labels : List Label) where
  -- a word with its bytes, by the words before it
  abbrev pub piece_given : List PlacedWord → PlacedWord → List PlacedWord → Piece
  piece_given before placed after = record {
    address = placed.address;
    bytes = encoded placed.form (expanded_text source placed.word) placed.address (unwrap_or (target_of source labels before placed) 0);
  }

  -- the words with their bytes
  unfoldable pub pieces_of : List PlacedWord → List Piece
  pieces_of words = each piece_given [] words
