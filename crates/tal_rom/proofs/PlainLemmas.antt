-- The ROM of words that are opcodes, bytes and shorts, one behind the other.
use Rattle.tal_rom.proofs.Common.{◌≡◌, ℕ, ◌+◌, ◌-◌, ◌≤◌, true, List, [], ◌∷◌, ◌++◌, length, get_or, map, Option, None, refl, ap, sym, ◌∙◌, arith}
use Rattle.tal_rom.proofs.Common.{AllByRecursion, get_or-append_right, nat_tests, length-map, get_or_append_left, Expanded, Form, Pad, Label}
use Rattle.tal_rom.proofs.Common.{expanded_text, phase_fault, size, TEXT_LIMIT, each, collected, expanded_of, PlacedWord, address_after, labels_of}
use Rattle.tal_rom.proofs.Common.{lambda_address, placed_given, placed_of, target_of, reference_kinds, validated_reference, reference_fault, Piece}
use Rattle.tal_rom.proofs.Common.{byte_at, piece_given, pieces_of, rom_image, trimmed, rom_limit, layout, first_fault, rom_of}
use Rattle.tal_rom.proofs.Moving.{covers-past, read_over, read_of, read_first}
use Rattle.tal_rom.proofs.Trimming.{trimmed-image}
use Rattle.tal_words.specs.PlainTexts.{Item, AreItems, text_of_items, words_of_items}
use Rattle.tal_words.proofs.PlainTexts.{words_are, no_word_fault, words_plain}
use Rattle.tal_macros.proofs.PlainLemmas.{expanded_texts, no_expansion_fault}
use Rattle.tal_labels.specs.PlainWords.{Coded, texts_of_coded, bytes_of_coded, pad_text, is_bare_form, RepresentsWord}
use Rattle.tal_labels.proofs.PlainLemmas.{all_coded, no_more, Spells, spells_from, shaped, Reaches, reaches_more, reaches_pad, formed_pad}
use Rattle.tal_labels.proofs.PlainLemmas.{plain_faultless}
use Rattle.tal_rom.specs.PlainWords.{AssemblesTo}

-- no opcode, byte or short is a reference
bare-no_reference : (shape : Form) (place : ℕ) (target : Option ℕ) → is_bare_form shape ≡ true → reference_kinds shape place target ≡ []
bare-no_reference shape place target bare = grind arith

-- the bytes of words, one behind the other, with so many before them
abbrev pub pieces_from : ℕ → List Coded → List Piece
pieces_from count [] = []
pieces_from count (coded ∷ codeds) = record { address = 256 + count; bytes = coded.bytes } ∷ pieces_from (count + length coded.bytes) codeds

-- a word with its place
abbrev placed_as : List ℕ → List Expanded → Expanded → List Expanded → Form → PlacedWord
placed_as source before word after shape = record {
  word = word;
  form = shape;
  address = address_after source before;
  size = size shape (expanded_text source word);
  lambda = lambda_address source before word after;
}

module _ (source : List ℕ) (labels : List Label) where
  -- the pieces of the words
  pieces_are : (words : List Expanded) (coded : List Coded) (before : List Expanded) (behind : List PlacedWord) (count : ℕ)
      → Spells source words coded → Reaches source before count
      → each (piece_given source labels) behind (collected (placed_given source) before words) ≡ pieces_from count coded
  pieces_are [] [] before behind count spells reaches = refl
  pieces_are (word ∷ words) (coded ∷ codeds) before behind count spells reaches =
      let placed = placed_as source before word words spells.1.shape in
      let bytes : (piece_given source labels behind placed []).bytes ≡ coded.bytes = rw spells.0 (spells.1.encodes _ _) in
      let reached = reaches_more source before word coded count spells.0 spells.1 reaches in
      let rest = pieces_are words codeds (before ++ word ∷ []) (behind ++ placed ∷ []) (count + length coded.bytes) spells.2 reached in
      rw (shaped source word coded spells.0 spells.1, bytes, rest, reaches.address) refl
  pieces_are words coded before behind count spells reaches = absurd spells

  -- none of them is a reference
  no_references : (words : List Expanded) (coded : List Coded) (before : List Expanded) (behind : List PlacedWord) → Spells source words coded
      → phase_fault (each (validated_reference source labels) behind (collected (placed_given source) before words)) ≡ None
  no_references [] [] before behind spells = refl
  no_references (word ∷ words) (coded ∷ codeds) before behind spells =
      let placed = placed_as source before word words spells.1.shape in
      rw (shaped source word coded spells.0 spells.1, bare-no_reference spells.1.shape _ (target_of source labels behind placed) spells.1.bare)
      (no_references words codeds (before ++ word ∷ []) (behind ++ placed ∷ []) spells.2)
  no_references words coded before behind spells = absurd spells

-- what is read of them
read_append : (bytes rest : List ℕ) (count i others : ℕ) → (length bytes ≤ i → get_or rest (i - length bytes) 0 ≡ others)
    → get_or (bytes ++ rest) i 0 ≡ read_over (256 + count + i) (record { address = 256 + count; bytes = bytes }) others
read_append bytes rest count i others e = grind (arith, nat_tests, get_or_append_left, get_or-append_right)

pieces_read : (coded : List Coded) (count i : ℕ) → get_or (bytes_of_coded coded) i 0 ≡ read_of (256 + count + i) (pieces_from count coded)
pieces_read [] count i = refl
pieces_read (coded ∷ codeds) count i =
    let size = length coded.bytes in
    let at : size ≤ i → 256 + (count + size) + (i - size) ≡ 256 + count + i = λ past. omega arith in
    rw (read_first (256 + count + i) (record { address = 256 + count; bytes = coded.bytes }))
    (read_append coded.bytes (bytes_of_coded codeds) count i _ (λ past.
    pieces_read codeds (count + size) (i - size) ∙ ap (λ n. read_of n (pieces_from (count + size) codeds)) (at past)))

image_is : (coded : List Coded) → length (bytes_of_coded coded) ≤ rom_limit
    → rom_image (record { address = 256; bytes = [] } ∷ pieces_from 0 coded) ≡ trimmed (bytes_of_coded coded)
unfolding rom_image byte_at
image_is coded within =
    let pieces : List Piece = record { address = 256; bytes = [] } ∷ pieces_from 0 coded in
    sym (trimmed-image (λ i. byte_at pieces (256 + i)) rom_limit (bytes_of_coded coded) within (λ i.
    let start : 256 + 0 + i ≡ 256 + i = omega arith in
    rw (covers-past (256 + i) (record { address = 256; bytes = [] }) (λ some. omega arith))
    (pieces_read coded 0 i ∙ ap (λ n. read_of n (pieces_from 0 coded)) start)))

-- a text of `|0100` and of such words assembles to their bytes
module _ (items : List Item) (coded : List Coded) (sound : AreItems items) (are : words_of_items items ≡ pad_text ∷ texts_of_coded coded)
    (stand : AllByRecursion RepresentsWord coded) (short : length (text_of_items items) ≤ TEXT_LIMIT)
    (within : length (bytes_of_coded coded) ≤ rom_limit) where
  abbrev source : List ℕ
  source = text_of_items items

  -- the expanded list by its first word
  by_first : (expanded : List Expanded) → expanded_of source ≡ expanded → map (expanded_text source) expanded ≡ pad_text ∷ texts_of_coded coded
      → AssemblesTo source (bytes_of_coded coded)
  unfolding first_fault rom_of layout reference_fault pieces_of placed_of address_after
  by_first [] e texts = cc
  by_first (first ∷ words) e texts =
      let padded : expanded_text source first ≡ pad_text = cc in
      let rest : map (expanded_text source) words ≡ texts_of_coded coded = cc in
      let all = all_coded coded stand in
      let spells = spells_from source words coded rest all in
      let count : length (pad_text ∷ texts_of_coded coded) ≡ 1 + length coded = omega (arith, length-map coded (λ (word : Coded). word.text)) in
      let no_word = no_word_fault items sound short in
      let no_macro = no_expansion_fault source (words_of_items items) (words_are items sound) (words_plain items sound)
      (omega (arith, count, ap length are, no_more coded all)) in
      let places = plain_faultless source (first ∷ words) coded texts stand within in
      let labels = labels_of source (first ∷ words) in
      let formed = formed_pad source first words coded padded spells in
      let placed = placed_as source [] first words (Pad 256) ∷ [] in
      let references = no_references source labels words coded (first ∷ []) placed spells in
      let pieces = pieces_are source labels words coded (first ∷ []) placed 0 spells (reaches_pad source first words coded padded spells) in
      record {
        faultless = rw (no_word, no_macro, e, places, formed) references;
        rom = rw (e, formed, pieces) (image_is coded within);
      }

  pub plain_assembles : AssemblesTo source (bytes_of_coded coded)
  plain_assembles =
      by_first (expanded_of source) refl (expanded_texts source (words_of_items items) (words_are items sound) (words_plain items sound) ∙ are)
