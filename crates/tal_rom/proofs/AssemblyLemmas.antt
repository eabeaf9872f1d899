-- The phases of a source.
use Rattle.tal_rom.proofs.Common.{◌≡◌, ℕ, ◌+◌, ◌<◌, ◌≤◌, true, List, [], length, get_or, Option, Some, None, Err, refl, sym, ◌∙◌, ap, arith}
use Rattle.tal_rom.proofs.Common.{false_from_ne_true, Fault, Label, expanded_text, Expanded, Gives, length-encoded, get_or-each, expanded_of}
use Rattle.tal_rom.proofs.Common.{expansion_fault, PlacedWord, Layout, layout_of, LieApart, place_fault, place_fault-none, lie_apart, reference_fault}
use Rattle.tal_rom.proofs.Common.{Piece, covers, piece_given, pieces_of, rom_image, CoverOnce, first_fault, layout, rom_of, IsAssembled}
use Rattle.tal_words.specs.declared.fault.AsmStop.{AsmStop}
use Rattle.tal_words.specs.declared.fault.AsmStop.TheVariants.{Refused, NoMemory}
use Rattle.tal_words.specs.Comments.{word_fault}
use Rattle.tal_labels.specs.Answers.{FindsNone}
use Rattle.tal_rom.proofs.Moving.{covers-true}
use Rattle.tal_rom.proofs.Checking.{no_placed_word}

-- a phase that stops with a fault stops with the first of the source, where that is the source's
pub stopped : {X Y : Type 0} (view : X → Y) (value : Y) (source : List ℕ) (stop : AsmStop) (fault : Option Fault)
    → ((found : Fault) → fault ≡ Some found → first_fault source ≡ Some found) → Gives view (Err stop) fault value
    → FindsNone (Err stop) (first_fault source)
stopped view value source (Refused found) fault first e = first found e
stopped view value source NoMemory fault first e = tt

pub refused : (source : List ℕ) (stop : AsmStop) → FindsNone (Err stop) (first_fault source) → IsAssembled source (Err stop)
refused source (Refused found) e = e
refused source NoMemory e = tt

-- the fault of each phase, where those before have none
module _ (source : List ℕ) where
  pub words_first : (found : Fault) → word_fault source ≡ Some found → first_fault source ≡ Some found
  unfolding first_fault
  words_first found e = rw e refl

  module _ (words_sound : word_fault source ≡ None) where
    pub expansion_first : (found : Fault) → expansion_fault source ≡ Some found → first_fault source ≡ Some found
    unfolding first_fault
    expansion_first found e = rw (words_sound, e) refl

    -- the words are those of the source, laid out as its own
    module _ (expanded : List Expanded) (listed : expanded ≡ expanded_of source) (expansion_sound : expansion_fault source ≡ None) where
      pub places_first : (found : Fault) → place_fault source expanded ≡ Some found → first_fault source ≡ Some found
      unfolding first_fault
      places_first found e = rw (words_sound, expansion_sound, ← listed, e) refl

      module _ (placed : Layout) (laid : placed ≡ layout_of source expanded) (places_sound : place_fault source expanded ≡ None) where
        same : placed ≡ layout source
        unfolding layout
        same = rw (laid, listed) refl

        pub references_first : (answer : Option Fault) → reference_fault source placed.labels placed.words ≡ answer → first_fault source ≡ answer
        unfolding first_fault
        references_first answer e = rw (words_sound, expansion_sound, ← listed, places_sound, ← same, e) refl

        -- where no phase has a fault the bytes of the words are the ROM of the source
        pub assembled : (rom : List ℕ) → reference_fault source placed.labels placed.words ≡ None
            → rom ≡ rom_image (pieces_of source placed.labels placed.words)
            → (first_fault source ≡ None) × (rom ≡ rom_of source) × (placed.words ≡ (layout source).words) × (placed.labels ≡ (layout source).labels)
        unfolding rom_of
        assembled rom sound bytes = (references_first None sound, rw (bytes, ← same) refl, ap (λ l. l.words) same, ap (λ l. l.labels) same)

module _ (source : List ℕ) (labels : List Label) (words : List PlacedWord) (apart : LieApart source words) where
  -- the piece of a word lies at its place, and is as long as its size says
  placed_piece : (k : ℕ) (word : PlacedWord) (piece : Piece) → k < length words
      → ((get_or (pieces_of source labels words) k piece).address ≡ (get_or words k word).address)
      × (length (get_or (pieces_of source labels words) k piece).bytes ≡ (get_or words k word).size)
  unfolding pieces_of
  placed_piece k word piece within =
      let size = length-encoded (get_or words k word).form (expanded_text source (get_or words k word).word) _ _ in
      rw (get_or-each (piece_given source labels) [] words k word piece within) (refl, size ∙ sym (apart.each k word within).sized)

  -- a word that covers an address has bytes on both sides of it
  covered : (address k : ℕ) (word : PlacedWord) (piece : Piece) → k < length words
      → covers address (get_or (pieces_of source labels words) k piece) ≡ true
      → ((get_or words k word).address ≤ address) × (address < (get_or words k word).address + (get_or words k word).size)
  covered address k word piece within e =
      let placed = placed_piece k word piece within in
      let bounds = covers-true address (get_or (pieces_of source labels words) k piece) e in
      (omega (arith, placed, bounds), omega (arith, placed, bounds))

  cover_once : CoverOnce source labels words
  cover_once = record {
    once = λ address i k other before within first. false_from_ne_true _ (λ second.
        let lower = covered address i no_placed_word other (omega arith) first in
        let upper = covered address k no_placed_word other within second in
        omega (arith, lower, upper, apart.apart i k no_placed_word before within (omega (arith, lower)) (omega (arith, upper))));
    sized = λ k word piece within. (placed_piece k word piece within).1;
  }

pub sound_once : (source : List ℕ) → first_fault source ≡ None → CoverOnce source (layout source).labels (layout source).words
unfolding first_fault layout
sound_once source sound =
    let parts = place_fault-none source (expanded_of source) (grind arith) in
    cover_once source _ _ (lie_apart source (expanded_of source) parts.0 parts.1)
