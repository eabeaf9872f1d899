-- What a placer represents.
use Rattle.std.specs.Prelude.{◌≡◌, ◌<◌, ◌≤◌, ℕ, ◌+◌, ◌*◌, ◌-◌, ◌^◌, zero, suc, nat_lt, if◌then◌else◌}
use Rattle.std.specs.Prelude.{Bool, true, false, List, [], ◌∷◌, ◌++◌, length, take, slice_get}
use Rattle.std.specs.Prelude.{Option, Some, None, is_some, Result, Ok, Err}
use Rattle.std.specs.Option.{option_map, option_or}
use Rattle.tal_words.specs.declared.span.Expanded.{Expanded}
use Rattle.tal_words.specs.declared.name.Label.{Label}
use Rattle.tal_words.specs.declared.fault.Fault.{Fault}
use Rattle.tal_words.specs.declared.fault.AsmStop.{AsmStop}
use Rattle.tal_words.specs.declared.fault.AsmStop.TheVariants.{Refused, NoMemory}
use Rattle.tal_words.specs.Faults.{fault_at}
use Rattle.tal_words.specs.declared.form.Form.{Form}
use Rattle.tal_words.specs.declared.form.Form.TheVariants.{Refer}
use Rattle.tal_words.specs.declared.form.Rune.{Rune}
use Rattle.tal_words.specs.Braces.{opens, closes}
use Rattle.tal_words.specs.Forms.{form}
use Rattle.tal_words.specs.Order.{last_of}
use Rattle.tal_words.specs.Source.{expanded_text}
use Rattle.tal_labels.specs.declared.placed.PlacedWord.{PlacedWord}
use Rattle.tal_labels.specs.declared.placer.Placer.{Placer}
use Rattle.tal_labels.specs.declared.scope.Scope.{Scope}
use Rattle.tal_labels.specs.Answers.{label_of, next_address, next_scope}
use Rattle.tal_labels.specs.Places.{address_after}
use Rattle.tal_labels.specs.Labels.{scope_after, labels_of}
use Rattle.tal_labels.specs.Placing.{ends_above, placed_of, validated_place}
use Rattle.tal_labels.specs.Adding.{shape_added, added_fault, open_word, open_ones}
use Rattle.tal_labels.specs.Scopes.{scope_text}

-- what is kept of words
pub record PlacerModel : Type 0 where
  pub words : List PlacedWord
  pub labels : List Label
  pub openers : List ℕ
  pub scope : Scope
  pub address : ℕ
  pub top : ℕ

abbrev pub kept_by : Placer → PlacerModel
kept_by placer = record {
  words = placer.words.items;
  labels = placer.labels;
  openers = placer.openers.items;
  scope = placer.scope;
  address = placer.address;
  top = placer.top;
}

-- of words without a fault the places, each lambda that is closed so far with its end; the labels; the words whose lambdas are
-- open; the scope, the address and the greatest end behind the words
pub record PlacerIsMaintained (source : List ℕ) (words : List Expanded) (kept : PlacerModel) : Type 0 where
  pub sound : added_fault source words ≡ None
  pub placed : kept.words ≡ placed_of source words
  pub labels : kept.labels ≡ labels_of source words
  pub openers : kept.openers ≡ open_ones source words
  pub scope : scope_text source kept.scope ≡ scope_after source words
  pub address : kept.address ≡ address_after source words
  pub top : (place : ℕ) → ends_above source words place ≡ nat_lt place kept.top
  pub small : kept.address ≤ 256 + 4294967296 * length words

-- these words were added to a placer
pub record WereAdded (source : List ℕ) (words : List Expanded) (placer : Placer) : Type 0 where
  pub faulty : placer.is_faulty ≡ is_some (added_fault source words)
  pub kept : added_fault source words ≡ None → PlacerIsMaintained source words (kept_by placer)

-- the fault of a word behind others: of its shape, or else of its place
abbrev pub next_fault : List ℕ → List Expanded → Expanded → Option Fault
next_fault source words word =
    option_or (option_map (fault_at word.origin) (slice_get (shape_added source words word) 0))
    (option_map (fault_at word.origin) (slice_get (validated_place source words word []).kinds 0))

-- what one word more does: it is placed, and what is kept becomes that of all, or it is refused with its fault, or memory runs out
abbrev pub PlacesNext : List ℕ → List Expanded → Expanded → Result PlacedWord AsmStop → PlacerModel → Type 0
PlacesNext source words word (Ok placed) new =
    (next_fault source words word ≡ None)
    × (form (expanded_text source word) ≡ Ok placed.form)
    × (placed ≡ open_word source words word placed.form)
    × PlacerIsMaintained source (words ++ word ∷ []) new
PlacesNext source words word (Err (Refused fault)) new = next_fault source words word ≡ Some fault
PlacesNext source words word (Err NoMemory) new = Unit {0}

-- the word at an index, with the end of its lambda
abbrev pub closed_at : ℕ → ℕ → List PlacedWord → List PlacedWord
closed_at at address [] = []
closed_at zero address (word ∷ words) = record word { lambda = Some address } ∷ words
closed_at (suc at) address (word ∷ words) = word ∷ closed_at at address words

abbrev pub closed_labels : Option ℕ → ℕ → List PlacedWord → List PlacedWord
closed_labels (Some at) address words = closed_at at address words
closed_labels None address words = words

-- the index of the opener that a word closes: the last of those that are open
abbrev pub closed_opener : Bool → Bool → List ℕ → Option ℕ
closed_opener false true openers = last_of (λ at. Some at) openers
closed_opener opening closing openers = None

-- the openers that are open after a word
abbrev pub openers_step : Bool → Bool → ℕ → List ℕ → List ℕ
openers_step true closing at openers = openers ++ at ∷ []
openers_step false true at openers = take (length openers - 1) openers
openers_step false false at openers = openers

-- what is done with a word of this form and text, which defines this name
pub record IsStep (source : List ℕ) (shape : Form) (text : List ℕ) (name : Option (List ℕ)) (placed : PlacedWord)
    (old new : PlacerModel) : Type 0 where
  pub words : new.words ≡ closed_labels (closed_opener (opens text) (closes text) old.openers) old.address (old.words ++ placed ∷ [])
  pub labels : new.labels ≡ old.labels ++ label_of name old.address
  pub openers : new.openers ≡ openers_step (opens text) (closes text) (length old.words) old.openers
  pub scope : scope_text source new.scope ≡ next_scope shape (scope_text source old.scope) text
  pub address : old.address < 2 ^ 63 → length text < 2 ^ 32 → new.address ≡ next_address shape text old.address
  pub small : length text < 2 ^ 32 → new.address < old.address + 2 ^ 32
  pub top : new.top ≡ (if nat_lt 0 placed.size then old.address + placed.size else old.top)

module _ (source : List ℕ) where
  -- a reference opens a lambda whose end is not known
  pub record IsOpen (placed : PlacedWord) : Type 0 where
    pub rune : Rune
    pub shape : placed.form ≡ Refer rune
    pub opening : opens (expanded_text source placed.word) ≡ true
    pub unended : placed.lambda ≡ None

  -- the word at an index is such a reference
  abbrev pub IsOpenAt : List PlacedWord → ℕ → Type 0
  IsOpenAt [] at = ⊥
  IsOpenAt (placed ∷ words) zero = IsOpen placed
  IsOpenAt (placed ∷ words) (suc at) = IsOpenAt words at
