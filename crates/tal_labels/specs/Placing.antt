-- What is wrong with the places of words, and the places and labels of words (profile: the kinds).
use Rattle.std.specs.Prelude.{◌≡◌, ◌<◌, ◌≤◌, length, slice_index_or, ℕ, ◌+◌, Bool, true, false, ◌&&◌}
use Rattle.std.specs.Prelude.{◌||◌, nat_lt, nat_le, List, [], ◌∷◌, ◌++◌, take, Option, Some, None, Result, Ok, Err}
use Rattle.std.specs.Prelude.{if◌then◌else◌}
use Rattle.std.specs.Option.{option_map, option_or}
use Rattle.std.specs.List.{list_any}
use Rattle.std.specs.Str.{bytes_eq}
use Rattle.tal_words.specs.declared.span.Expanded.{Expanded}
use Rattle.tal_words.specs.declared.name.Label.{Label}
use Rattle.tal_words.specs.declared.fault.Fault.{Fault}
use Rattle.tal_words.specs.declared.fault.FaultKind.{FaultKind}
use Rattle.tal_words.specs.declared.fault.FaultKind.TheVariants.{LabelTwice, ZeroPage, Outside, Rewind}
use Rattle.tal_words.specs.declared.form.Form.{Form}
use Rattle.tal_words.specs.declared.form.Form.TheVariants.{LabelDef, SubDef, LambdaEnd}
use Rattle.tal_words.specs.Faults.{Validated, when, phase_fault}
use Rattle.tal_words.specs.Forms.{form, size}
use Rattle.tal_words.specs.Braces.{opens}
use Rattle.tal_labels.specs.declared.placed.PlacedWord.{PlacedWord}
use Rattle.tal_words.specs.Order.{collected, each}
use Rattle.tal_words.specs.Source.{expanded_text}
use Rattle.uxn_limits.specs.declared.addresses.TheConstants.{FIRST_ADDRESS, MEMORY_END}
use Rattle.tal_labels.specs.Places.{address_after}
use Rattle.tal_labels.specs.Labels.{defined_name, scope_after, labels_of}
use Rattle.tal_labels.specs.Shapes.{closing_distance, shape_fault}

-- a label or the end of a lambda
abbrev pub is_mark_form : Form → Bool
is_mark_form LabelDef = true
is_mark_form SubDef = true
is_mark_form LambdaEnd = true
is_mark_form _ = false

abbrev pub formed_marks : Result Form FaultKind → Bool
formed_marks (Ok shape) = is_mark_form shape
formed_marks (Err kind) = false

-- the number of bytes of a word
abbrev pub formed_size : Result Form FaultKind → List ℕ → ℕ
formed_size (Ok shape) text = size shape text
formed_size (Err kind) text = 0

-- a word defines a name that is among these labels
abbrev pub is_defined : List Label → Option (List ℕ) → Bool
is_defined labels None = false
is_defined labels (Some name) = list_any (λ label. bytes_eq name label.name) labels

-- what is wrong with the address of a word: `twice` where its name is defined before, `below` where it lies below the end of
-- an earlier word
abbrev pub place_kinds : Bool → ℕ → ℕ → Bool → Bool → List FaultKind
place_kinds twice place length is_mark below =
    when twice LabelTwice
    ++ when (nat_lt 0 length && nat_lt place FIRST_ADDRESS) ZeroPage
    ++ when ((nat_lt 0 length && nat_lt MEMORY_END (place + length)) || (is_mark && nat_le MEMORY_END place)) Outside
    ++ when (nat_lt 0 length && below) Rewind

module _ (source : List ℕ) where
  -- the end of a word that has bytes
  abbrev pub ends_given : List Expanded → Expanded → List Expanded → List ℕ
  ends_given before word after =
      let length = formed_size (form (expanded_text source word)) (expanded_text source word) in
      if nat_lt 0 length then (address_after source before + length) ∷ [] else []

  -- the ends of the words that have bytes
  unfoldable pub ends_of : List Expanded → List ℕ
  ends_of words = collected ends_given [] words

  -- one of the words ends above a place
  abbrev pub ends_above : List Expanded → ℕ → Bool
  ends_above words place = list_any (λ end. nat_lt place end) (ends_of words)

  -- a word with what is wrong with its place
  abbrev pub validated_place : List Expanded → Expanded → List Expanded → Validated
  validated_place before word after =
      let text = expanded_text source word in
      let place = address_after source before in
      record {
        origin = word.origin;
        kinds = place_kinds
            (is_defined (labels_of source before) (defined_name (form text) (scope_after source before) text))
            place (formed_size (form text) text) (formed_marks (form text)) (ends_above before place);
      }

  -- the first fault of the places of words
  unfoldable pub placing_fault : List Expanded → Option Fault
  placing_fault words = phase_fault (each validated_place [] words)

  -- the first fault of shapes and places
  unfoldable pub place_fault : List Expanded → Option Fault
  place_fault words = option_or (shape_fault source words) (placing_fault words)

  -- the place of the `}` that closes the lambda of an opener
  abbrev pub lambda_address : List Expanded → Expanded → List Expanded → Option ℕ
  lambda_address before word after =
      if opens (expanded_text source word)
      then option_map (λ between. address_after source (before ++ word ∷ take between after)) (closing_distance source after) else None

  -- a word with its place
  abbrev pub placed_with : List Expanded → Expanded → List Expanded → Result Form FaultKind → List PlacedWord
  placed_with before word after (Err kind) = []
  placed_with before word after (Ok shape) = record {
    word = word;
    form = shape;
    address = address_after source before;
    size = size shape (expanded_text source word);
    lambda = lambda_address before word after;
  } ∷ []

  abbrev pub placed_given : List Expanded → Expanded → List Expanded → List PlacedWord
  placed_given before word after = placed_with before word after (form (expanded_text source word))

  -- the words with their places
  unfoldable pub placed_of : List Expanded → List PlacedWord
  placed_of words = collected placed_given [] words

-- a word has its form and its size, and where it has bytes it lies in memory
pub record LiesInMemory (source : List ℕ) (word : PlacedWord) : Type 0 where
  pub shape : form (expanded_text source word.word) ≡ Ok word.form
  pub sized : word.size ≡ size word.form (expanded_text source word.word)
  pub start : 0 < word.size → FIRST_ADDRESS ≤ word.address
  pub end : 0 < word.size → word.address + word.size ≤ MEMORY_END

-- each word lies in memory, and where it has bytes above the end of each word with bytes before it
pub record LieApart (source : List ℕ) (words : List PlacedWord) : Type 0 where
  pub each : (k : ℕ) (other : PlacedWord) → k < length words → LiesInMemory source (slice_index_or words k other)
  pub apart : (i k : ℕ) (other : PlacedWord) → i < k → k < length words
      → 0 < (slice_index_or words i other).size → 0 < (slice_index_or words k other).size
      → (slice_index_or words i other).address + (slice_index_or words i other).size ≤ (slice_index_or words k other).address

-- what is known of words that are laid out: the words with their places, and the labels
pub record Layout : Type 0 where
  pub words : List PlacedWord
  pub labels : List Label

-- the layout of words
abbrev pub layout_of : List ℕ → List Expanded → Layout
layout_of source words = record { words = placed_of source words; labels = labels_of source words }
