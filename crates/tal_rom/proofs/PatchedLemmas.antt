-- Where all words are added: what waits, what does not fit, and the ROM.
use Rattle.std.specs.Prelude.{slice_get}
use Rattle.tal_rom.proofs.Common.{◌≡◌, ℕ, ◌+◌, true, false, not, List, [], ◌∷◌, ◌++◌, length, map, Option, None, refl, ap, arith, filter, list_any}
use Rattle.tal_rom.proofs.Common.{range_with_len, Fault, Label, Expanded, Form, phase_fault, each, fault_or-none, PlacedWord, labels_of}
use Rattle.tal_rom.proofs.Common.{placed_of, target_of, reference_kinds, validated_reference, reference_fault, byte_at, piece_given, pieces_of}
use Rattle.tal_rom.proofs.Common.{rom_image, trimmed, rom_limit, Added, waits_by, waits, is_far_by, is_far, known_piece, added_given, added_of}
use Rattle.tal_rom.proofs.Common.{waiting_count, all_fit, image_of}

-- a word has no fault of its reference exactly where it neither waits nor is far
one_none : (form : Form) (address : ℕ) (target : Option ℕ) → slice_get (reference_kinds form address target) 0 ≡ None
    → (waits_by form target ≡ false) × (is_far_by form address target ≡ false)
one_none form address target e = grind arith

none_one : (form : Form) (address : ℕ) (target : Option ℕ) → waits_by form target ≡ false → is_far_by form address target ≡ false
    → slice_get (reference_kinds form address target) 0 ≡ None
none_one form address target e f = grind arith

module _ (source : List ℕ) (labels : List Label) where
  abbrev added : List PlacedWord → List PlacedWord → List Added
  added before words = each (added_given source labels) before words

  abbrev fault_among : List PlacedWord → List PlacedWord → Option Fault
  fault_among before words = phase_fault (each (validated_reference source labels) before words)

  -- where no word has a fault of its reference, all are known, and their bytes are those of the words
  all_known : (before words : List PlacedWord) → fault_among before words ≡ None
      → (length (filter waits (added before words)) ≡ 0) × (not (list_any is_far (added before words)) ≡ true)
      × (map known_piece (added before words) ≡ each (piece_given source labels) before words)
  all_known before [] e = (refl, refl, refl)
  all_known before (placed ∷ words) e =
      let target = target_of source labels before placed in
      let parts = fault_or-none placed.word.origin (slice_get (reference_kinds placed.form placed.address target) 0) _ e in
      grind (arith, one_none placed.form placed.address target parts.0, all_known (before ++ placed ∷ []) words parts.1)

  no_fault : (before words : List PlacedWord) → length (filter waits (added before words)) ≡ 0 → not (list_any is_far (added before words)) ≡ true
      → fault_among before words ≡ None
  no_fault before [] e f = refl
  no_fault before (placed ∷ words) e f =
      grind (arith, none_one placed.form placed.address (target_of source labels before placed), no_fault (before ++ placed ∷ []) words)

module _ (source : List ℕ) (words : List Expanded) where
  pub when_faultless : reference_fault source (labels_of source words) (placed_of source words) ≡ None
      → (waiting_count source words ≡ 0) × (all_fit source words ≡ true)
      × (trimmed (image_of source words) ≡ rom_image (pieces_of source (labels_of source words) (placed_of source words)))
  unfolding reference_fault waiting_count all_fit image_of added_of pieces_of rom_image
  when_faultless e =
      let known = all_known source (labels_of source words) [] (placed_of source words) e in
      (known.0, known.1, ap (λ pieces. trimmed (map (λ i. byte_at pieces (256 + i)) (range_with_len 0 rom_limit))) known.2)

  pub without_known : waiting_count source words ≡ 0 → all_fit source words ≡ true
      → reference_fault source (labels_of source words) (placed_of source words) ≡ None
  unfolding reference_fault waiting_count all_fit added_of
  without_known e f = no_fault source (labels_of source words) [] (placed_of source words) e f
