-- Words that are opcodes, bytes and shorts, one behind the other from the address 0100 on.
use Rattle.tal_labels.proofs.Common.{◌≡◌, ℕ, ◌+◌, ◌<◌, ◌≤◌, true, false, List, [], ◌∷◌, ◌++◌, length, map, None, Ok, refl, ap, ◌∙◌, arith}
use Rattle.tal_labels.proofs.Common.{length-append, nat_tests, if◌then◌else◌, nat_lt, list_any, AllByRecursion, Expanded, Form, Pad, expanded_text}
use Rattle.tal_labels.proofs.Common.{phase_fault, form, size, encoded, opens, closes, each, pad_value, form_moves, moves, address_after, addresses_of}
use Rattle.tal_labels.proofs.Common.{defined_name, scope_after, validated_shape, shape_fault, is_mark_form, formed_size, place_kinds, ends_of}
use Rattle.tal_labels.proofs.Common.{ends_above, validated_place, placing_fault, place_fault}
use Rattle.std.proofs.lemmas.Grind.{common_steps}
use Rattle.tal_labels.proofs.LayingLemmas.{address-more, address_after-more, ends_of-append}
use Rattle.uxn_limits.specs.declared.limits.TheConstants.{BANK_ROM_LIMIT}
use Rattle.tal_labels.specs.PlainWords.{Coded, texts_of_coded, bytes_of_coded, pad_text, is_bare_form, RepresentsWord, addresses_from}

-- what is known of an opcode, a byte or a short
pub record IsCoded (word : Coded) : Type 0 where
  pub shape : Form
  pub formed : form word.text ≡ Ok shape
  pub unpadded : pad_value (Ok shape) ≡ None
  pub encodes : (place target : ℕ) → encoded shape word.text place target ≡ word.bytes
  pub sized : size shape word.text ≡ length word.bytes
  pub moved : form_moves shape word.text ≡ length word.bytes
  pub unmarked : is_mark_form shape ≡ false
  pub nameless : (scope : List ℕ) → defined_name (Ok shape) scope word.text ≡ None
  pub bare : is_bare_form shape ≡ true
  pub some : 0 < length word.bytes
  pub unopened : opens word.text ≡ false
  pub unclosed : closes word.text ≡ false

-- what is known of a word that represents bytes, by its form
coded_is : (word : Coded) → RepresentsWord word → IsCoded word
coded_is word is = grind (arith, common_steps)

pub all_coded : (words : List Coded) → AllByRecursion RepresentsWord words → AllByRecursion IsCoded words
all_coded [] all = tt
all_coded (word ∷ words) all = (coded_is word all.0, all_coded words all.1)

-- no more words than bytes
pub no_more : (words : List Coded) → AllByRecursion IsCoded words → length words ≤ length (bytes_of_coded words)
no_more [] all = omega arith
no_more (word ∷ words) all = omega (arith, no_more words all.1, all.0.some, length-append word.bytes (bytes_of_coded words))

form-pad : form pad_text ≡ Ok (Pad 256)
unfolding form
form-pad = refl

-- nothing is wrong with the place of a word that defines nothing and lies behind those before it
no_kinds : (place length' : ℕ) → 256 ≤ place → place + length' ≤ 65536 → place_kinds false place length' false false ≡ []
no_kinds place length' start end = grind (arith, nat_tests)

low_end : (place length' top : ℕ) → place + length' ≤ top → list_any (λ end. nat_lt top end) (if nat_lt 0 length' then (place + length') ∷ [] else []) ≡ false
low_end place length' top end = grind (arith, nat_tests)

module _ (source : List ℕ) where
  -- words have the texts of these
  abbrev pub Spells : List Expanded → List Coded → Type 0
  Spells [] [] = Unit {0}
  Spells (word ∷ words) (coded ∷ codeds) = (expanded_text source word ≡ coded.text) × IsCoded coded × Spells words codeds
  Spells words coded = ⊥

  pub spells_from : (words : List Expanded) (coded : List Coded) → map (expanded_text source) words ≡ texts_of_coded coded → AllByRecursion IsCoded coded → Spells words coded
  spells_from [] [] e are = tt
  spells_from (word ∷ words) (coded ∷ codeds) e are = (cc, are.0, spells_from words codeds (cc) are.1)
  spells_from words coded e are = cc

  pub shaped : (word : Expanded) (coded : Coded) → expanded_text source word ≡ coded.text → (is : IsCoded coded) → form (expanded_text source word) ≡ Ok is.shape
  shaped word coded e is = ap form e ∙ is.formed

  -- nothing is wrong with the shapes of the words
  shapes_sound : (words : List Expanded) (coded : List Coded) (before : List Expanded) → Spells words coded → phase_fault (each (validated_shape source) before words) ≡ None
  shapes_sound [] [] before spells = refl
  shapes_sound (word ∷ words) (coded ∷ codeds) before spells =
      rw (spells.0, spells.1.formed, spells.1.unclosed, spells.1.unopened) (shapes_sound words codeds (before ++ word ∷ []) spells.2)
  shapes_sound words coded before spells = absurd spells

  -- the words so far represent so many bytes, one behind the other
  pub record Reaches (before : List Expanded) (count : ℕ) : Type 0 where
    pub address : address_after source before ≡ 256 + count
    pub ends : (place : ℕ) → 256 + count ≤ place → ends_above source before place ≡ false

  pub reaches_more : (before : List Expanded) (word : Expanded) (coded : Coded) (count : ℕ) → expanded_text source word ≡ coded.text → IsCoded coded → Reaches before count
      → Reaches (before ++ word ∷ []) (count + length coded.bytes)
  reaches_more before word coded count e is reaches =
      let text = expanded_text source word in
      let formed = shaped word coded e is in
      let moved : moves (form text) text ≡ length coded.bytes = rw (formed, e) is.moved in
      let sized : formed_size (form text) text ≡ length coded.bytes = rw (formed, e) is.sized in
      record {
        address = rw (address-more source before word, ap pad_value formed ∙ is.unpadded) (omega (arith, moved, reaches.address));
        ends = λ place above. rw (ends_of-append source before word place, reaches.ends place (omega arith))
            (low_end (address_after source before) (formed_size (form text) text) place (omega (arith, sized, reaches.address)));
      }

  -- their addresses
  addresses_are : (words : List Expanded) (coded : List Coded) (before : List Expanded) (count : ℕ) → Spells words coded → Reaches before count
      → each (λ earlier word after. address_after source earlier) before words ≡ addresses_from count coded
  addresses_are [] [] before count spells reaches = refl
  addresses_are (word ∷ words) (coded ∷ codeds) before count spells reaches =
      rw (reaches.address, addresses_are words codeds (before ++ word ∷ []) (count + length coded.bytes) spells.2 (reaches_more before word coded count spells.0 spells.1 reaches)) refl
  addresses_are words coded before count spells reaches = absurd spells

  -- nothing is wrong with their places
  places_sound : (words : List Expanded) (coded : List Coded) (before : List Expanded) (count : ℕ) → Spells words coded → Reaches before count
      → count + length (bytes_of_coded coded) ≤ BANK_ROM_LIMIT → phase_fault (each (validated_place source) before words) ≡ None
  places_sound [] [] before count spells reaches within = refl
  places_sound (word ∷ words) (coded ∷ codeds) before count spells reaches within =
      let is = spells.1 in
      let total = length-append coded.bytes (bytes_of_coded codeds) in
      let more = reaches_more before word coded count spells.0 is reaches in
      rw (spells.0, is.formed, is.nameless (scope_after source before), is.unmarked, is.sized, reaches.address, reaches.ends (256 + count) (omega arith))
      (rw (no_kinds (256 + count) (length coded.bytes) (omega arith) (omega (arith, total)))
      (places_sound words codeds (before ++ word ∷ []) (count + length coded.bytes) spells.2 more (omega (arith, total))))
  places_sound words coded before count spells reaches within = absurd spells

  -- the same behind `|0100`
  module _ (first : Expanded) (words : List Expanded) (coded : List Coded) (padded : expanded_text source first ≡ pad_text) (spells : Spells words coded) where
    pub formed_pad : form (expanded_text source first) ≡ Ok (Pad 256)
    formed_pad = ap form padded ∙ form-pad

    pub reaches_pad : Reaches (first ∷ []) 0
    unfolding ends_of
    reaches_pad = record { address = address_after-more source [] first (Pad 256) formed_pad; ends = λ place above. rw (padded, form-pad) refl }

    pub no_shape_fault : shape_fault source (first ∷ words) ≡ None
    unfolding shape_fault
    no_shape_fault = rw (padded, form-pad) (shapes_sound words coded (first ∷ []) spells)

    pub no_placing_fault : length (bytes_of_coded coded) ≤ BANK_ROM_LIMIT → placing_fault source (first ∷ words) ≡ None
    unfolding placing_fault ends_of address_after
    no_placing_fault within = rw (padded, form-pad) (places_sound words coded (first ∷ []) 0 spells reaches_pad (omega arith))

    pub addresses_pad : addresses_of source (first ∷ words) ≡ 256 ∷ addresses_from 0 coded
    unfolding addresses_of address_after
    addresses_pad = rw (addresses_are words coded (first ∷ []) 0 spells reaches_pad) refl

-- the same of any words with these texts
pub plain_laid : (source : List ℕ) (words : List Expanded) (coded : List Coded) → map (expanded_text source) words ≡ pad_text ∷ texts_of_coded coded → AllByRecursion RepresentsWord coded
    → (length (bytes_of_coded coded) ≤ BANK_ROM_LIMIT → place_fault source words ≡ None) × (addresses_of source words ≡ 256 ∷ addresses_from 0 coded)
unfolding place_fault
plain_laid source [] coded are all = cc
plain_laid source (first ∷ rest) coded are all =
    let padded : expanded_text source first ≡ pad_text = cc in
    let spells = spells_from source rest coded (cc) (all_coded coded all) in
    (λ within. rw (no_shape_fault source first rest coded padded spells, no_placing_fault source first rest coded padded spells within) refl, addresses_pad source first rest coded padded spells)

pub plain_faultless : (source : List ℕ) (words : List Expanded) (coded : List Coded) → map (expanded_text source) words ≡ pad_text ∷ texts_of_coded coded → AllByRecursion RepresentsWord coded
    → length (bytes_of_coded coded) ≤ BANK_ROM_LIMIT → place_fault source words ≡ None
plain_faultless source words coded are all = (plain_laid source words coded are all).0
