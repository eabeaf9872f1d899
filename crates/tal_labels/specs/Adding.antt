-- Words that are added one by one: what is wrong with them, and what is known of them so far (profile).
use Rattle.std.specs.Prelude.{ℕ, Bool, true, false, not, ◌&&◌, List, [], ◌∷◌, ◌++◌, length}
use Rattle.std.specs.Prelude.{Option, Some, None, is_some, Result, Ok, if◌then◌else◌}
use Rattle.tal_words.specs.declared.span.Expanded.{Expanded}
use Rattle.tal_words.specs.declared.fault.Fault.{Fault}
use Rattle.tal_words.specs.declared.fault.FaultKind.{FaultKind}
use Rattle.tal_words.specs.declared.form.Form.{Form}
use Rattle.tal_words.specs.Faults.{Validated, phase_fault}
use Rattle.tal_words.specs.Forms.{form, size}
use Rattle.tal_words.specs.Braces.{opens}
use Rattle.tal_words.specs.Order.{collected, each}
use Rattle.tal_words.specs.Source.{expanded_text}
use Rattle.tal_labels.specs.declared.placed.PlacedWord.{PlacedWord}
use Rattle.tal_labels.specs.Places.{address_after}
use Rattle.tal_labels.specs.Shapes.{shape_kinds, open_count, closing_distance}
use Rattle.tal_labels.specs.Placing.{validated_place}

module _ (source : List ℕ) where
  -- what is wrong with the shape of a word behind others, but that no word closes its lambda
  abbrev pub shape_added : List Expanded → Expanded → List FaultKind
  shape_added before word = shape_kinds (form (expanded_text source word)) (expanded_text source word) (open_count source before) true

  -- what is wrong with a word behind others, whatever follows it: its shape and its place
  abbrev pub adding_kinds : List Expanded → Expanded → List FaultKind
  adding_kinds before word = shape_added before word ++ (validated_place source before word []).kinds

  abbrev pub validated_added : List Expanded → Expanded → List Expanded → Validated
  validated_added before word after = record { origin = word.origin; kinds = adding_kinds before word }

  -- the first such fault among words
  unfoldable pub added_fault : List Expanded → Option Fault
  added_fault words = phase_fault (each validated_added [] words)

  -- a word of a form behind others, which no later word is known of
  abbrev pub open_word : List Expanded → Expanded → Form → PlacedWord
  open_word before word shape = record {
    word = word;
    form = shape;
    address = address_after source before;
    size = size shape (expanded_text source word);
    lambda = None;
  }

  -- what adding a word behind others gives: the word with its place, and nothing where one of them has a fault
  abbrev pub given_word : List Expanded → Expanded → Bool → Result Form FaultKind → Option PlacedWord
  given_word before word false (Ok shape) = Some (open_word before word shape)
  given_word before word is_faulty shape = None

  abbrev pub word_added : List Expanded → Expanded → Option PlacedWord
  word_added before word = given_word before word (is_some (added_fault (before ++ word ∷ []))) (form (expanded_text source word))

  -- the index of a word, where it opens a lambda that none of the words after it closes
  abbrev pub open_given : List Expanded → Expanded → List Expanded → List ℕ
  open_given before word after =
      if opens (expanded_text source word) && not (is_some (closing_distance source after)) then length before ∷ [] else []

  -- the indices of the words whose lambdas are open after some words
  unfoldable pub open_ones : List Expanded → List ℕ
  open_ones words = collected open_given [] words
