-- The listing, one word at a time, and the bytes that it shows beside a word.
use Rattle.std.proofs.Common.{◌≡◌, ℕ, ◌+◌, ◌-◌, ◌<◌, ◌≤◌, List, [], ◌∷◌, ◌++◌, length, get_or, None, Ok, refl, ap, ◌∙◌, arith, append_assoc, zero, suc, true, false, map, find, Some}
use Rattle.std.proofs.lemmas.Grind.{common_steps}
use Rattle.std.proofs.lemmas.List.FromFn.{map-range_with_len_more, get_or-map-range_with_len, length-map-range_with_len}
use Rattle.std.proofs.lemmas.List.Concat.{flat_map-append}
use Rattle.tal_macros.specs.Expansion.{expanded_of}
use Rattle.tal_labels.specs.declared.placed.PlacedWord.{PlacedWord}
use Rattle.tal_labels.specs.Placing.{LiesInMemory, LieApart}
use Rattle.tal_labels.proofs.CallerLemmas.{place_fault-none, lie_apart}
use Rattle.tal_rom.specs.Program.{Program}
use Rattle.tal_rom.specs.Assembly.{first_fault, layout, IsAssembled, rom_of}
use Rattle.uxn_io_traits.specs.NumberText.{hex_of_byte}
use Rattle.tal_listing.specs.Listing.{memory_bytes, spaced_bytes, HoldsItsWords}
use Rattle.std.proofs.lemmas.Bool.Decides.{nat_tests}
use Rattle.std.specs.List.{range_with_len}
use Rattle.std.proofs.lemmas.Grind.{same_number_lists}
use Rattle.tal_words.proofs.OrderLemmas.{get_or-each, length-each}
use Rattle.tal_rom.specs.Rom.{Piece, covers, byte_at, before_trimmed, trimmed, rom_image, piece_given, pieces_of, rom_limit}
use Rattle.tal_rom.proofs.AssemblyLemmas.{sound_once}

-- one more byte of memory
pub memory_more : (rom before : List ℕ) (offset i byte : ℕ) → byte ≡ get_or rom (offset + i) 0
    → (before ++ spaced_bytes (memory_bytes rom (offset + 256) i)) ++ 32 ∷ hex_of_byte byte ≡ before ++ spaced_bytes (memory_bytes rom (offset + 256) (i + 1))
memory_more rom before offset i byte read =
    let f : ℕ → ℕ = λ k. get_or rom (offset + 256 - 256 + k) 0 in
    let at : offset + 256 - 256 + i ≡ offset + i = omega arith in
    rw (map-range_with_len_more f 0 i i (omega arith), flat_map-append, at, ← read) (simp append_assoc)

-- the words of a source without a fault lie in memory
pub sound_words : (source : List ℕ) → first_fault source ≡ None → LieApart source (layout source).words
unfolding first_fault layout
sound_words source sound =
    let parts = place_fault-none source (expanded_of source) (grind arith) in
    lie_apart source (expanded_of source) parts.0 parts.1

-- the address of a word with bytes
pub line_fits : (source : List ℕ) (program : Program) (words : List PlacedWord) → words ≡ program.places → IsAssembled source (Ok program) → (k : ℕ) (d : PlacedWord)
    → k < length words → 0 < (get_or words k d).size → (256 ≤ (get_or words k d).address) × ((get_or words k d).address < 65536)
line_fits source program words are assembled k d within some =
    let lies : LiesInMemory source (get_or words k d) = rw (are, assembled.2) ((sound_words source assembled.0).each k d (omega (arith, ap length (are ∙ assembled.2)))) in
    (omega (arith, lies.start some), omega (arith, lies.end some))

-- a list reads the same without the zeros at its end
get_or-before : (x : ℕ) (t xs : List ℕ) (i : ℕ) → ((j : ℕ) → get_or t j 0 ≡ get_or xs j 0) → get_or (before_trimmed x t) i 0 ≡ get_or (x ∷ xs) i 0
get_or-before x t xs i same = grind (arith, common_steps)

get_or-trimmed : (xs : List ℕ) (i : ℕ) → get_or (trimmed xs) i 0 ≡ get_or xs i 0
unfolding trimmed
get_or-trimmed [] i = refl
get_or-trimmed (x ∷ xs) i = get_or-before x (trimmed xs) xs i (λ j. get_or-trimmed xs j)

-- the first word that covers an address is found
found_first : (pieces : List Piece) (address k : ℕ) (d : Piece) → k < length pieces → covers address (get_or pieces k d) ≡ true
    → ((i : ℕ) → i < k → covers address (get_or pieces i d) ≡ false) → find (covers address) pieces ≡ Some (get_or pieces k d)
found_first [] address k d within here before = absurd (omega arith)
found_first (piece ∷ pieces) address zero d within here before = rw here refl
found_first (piece ∷ pieces) address (suc k) d within here before =
    let other = before 0 (omega arith) in
    rw other (found_first pieces address k d (omega arith) here (λ i below. before (suc i) (omega arith)))

module _ (source : List ℕ) (sound : first_fault source ≡ None) (k : ℕ) (word : PlacedWord) (piece : Piece) (within : k < length (layout source).words) where
  abbrev pieces : List Piece
  pieces = pieces_of source (layout source).labels (layout source).words

  abbrev placed : PlacedWord
  placed = get_or (layout source).words k word

  abbrev own : Piece
  own = get_or (pieces_of source (layout source).labels (layout source).words) k piece

  own_place : (own.address ≡ placed.address) × (length pieces ≡ length (layout source).words)
  unfolding pieces_of
  own_place = (
    ap (λ (p : Piece). p.address) (get_or-each (piece_given source (layout source).labels) [] (layout source).words k word piece within),
    length-each (piece_given source (layout source).labels) [] (layout source).words,
  )

  -- a byte of the ROM
  rom_byte : (i : ℕ) → i < rom_limit → get_or (rom_of source) i 0 ≡ byte_at pieces (256 + i)
  unfolding rom_of rom_image
  rom_byte i below =
      let f : ℕ → ℕ = λ n. byte_at pieces (256 + n) in
      get_or-trimmed (map f (range_with_len 0 rom_limit)) i ∙ get_or-map-range_with_len f 0 rom_limit i i 0 below (omega arith)

  byte_own : (j : ℕ) → j < placed.size → byte_at pieces (placed.address + j) ≡ get_or own.bytes j 0
  unfolding byte_at
  byte_own j inside =
      let once = sound_once source sound in
      let own_covers : covers (placed.address + j) own ≡ true = grind (arith, nat_tests, own_place.0, once.sized k word piece within) in
      let alone : (i : ℕ) → i < k → covers (placed.address + j) (get_or pieces i piece) ≡ false =
      λ i below. grind (arith, own_covers, once.once (placed.address + j) i k piece below within) in
      let at : placed.address + j - own.address ≡ j = omega (arith, own_place.0) in
      rw (found_first pieces (placed.address + j) k piece (omega (arith, own_place.1)) own_covers alone, at) refl

  shown : memory_bytes (rom_of source) placed.address placed.size ≡ own.bytes
  shown =
      let f : ℕ → ℕ = λ i. get_or (rom_of source) (placed.address - 256 + i) 0 in
      let size = (sound_once source sound).sized k word piece within in
      let lies = (sound_words source sound).each k word within in
      let count = length-map-range_with_len f 0 placed.size in
      same_number_lists (memory_bytes (rom_of source) placed.address placed.size) own.bytes (omega (arith, count, size))
      (λ j below.
      let inside : j < placed.size = omega (arith, count) in
      let start = lies.start (omega arith) in
      let end = lies.end (omega arith) in
      let address : 256 + (placed.address - 256 + j) ≡ placed.address + j = omega arith in
      get_or-map-range_with_len f 0 placed.size j j 0 inside (omega arith)
      ∙ rom_byte (placed.address - 256 + j) (omega arith)
      ∙ ap (byte_at pieces) address ∙ byte_own j inside)

pub holds_words : (source : List ℕ) → first_fault source ≡ None → HoldsItsWords source
holds_words source sound = record { each = λ k word piece within. shown source sound k word piece within }
