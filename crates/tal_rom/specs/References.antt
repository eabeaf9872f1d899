-- What references name, and what is wrong with them (Uxntal syntax reference; profile: the kinds).
use Rattle.std.specs.Prelude.{ℕ, not, if◌then◌else◌, List, [], ◌∷◌, map, Option, Some, None}
use Rattle.tal_words.specs.declared.fault.Fault.{Fault}
use Rattle.tal_words.specs.declared.fault.FaultKind.{FaultKind}
use Rattle.tal_words.specs.declared.fault.FaultKind.TheVariants.{UnknownName, TooFar}
use Rattle.tal_words.specs.declared.form.Form.{Form}
use Rattle.tal_words.specs.declared.form.Form.TheVariants.{Refer}
use Rattle.tal_words.specs.declared.form.Rune.{Rune}
use Rattle.tal_words.specs.declared.name.Label.{Label}
use Rattle.tal_words.specs.Faults.{Validated, when, phase_fault}
use Rattle.tal_words.specs.Forms.{reaches}
use Rattle.tal_words.specs.Names.{full_name, name_after_rune}
use Rattle.tal_words.specs.Braces.{opens}
use Rattle.tal_labels.specs.declared.placed.PlacedWord.{PlacedWord}
use Rattle.tal_words.specs.Order.{each}
use Rattle.tal_words.specs.Source.{expanded_text}
use Rattle.tal_words.specs.Labels.{address_named}
use Rattle.tal_labels.specs.Labels.{scope_after}

-- what a reference names in a scope: an opener the address of the `}` that closes its lambda, and any other the address of the
-- label of its full name
abbrev pub named_target : List Label → List ℕ → List ℕ → Option ℕ → Option ℕ
named_target labels scope text lambda =
    if opens text then lambda else address_named labels (full_name scope (name_after_rune text))

-- the target of a word of a form: only a reference has one
abbrev pub form_target : Form → Option ℕ → Option ℕ
form_target (Refer rune) target = target
form_target _ target = None

-- the target of a word with its text in a scope
abbrev pub target_in : List Label → List ℕ → List ℕ → PlacedWord → Option ℕ
target_in labels scope text placed = form_target placed.form (named_target labels scope text placed.lambda)

-- what is wrong with a reference at an address
abbrev pub target_kinds : Rune → ℕ → Option ℕ → List FaultKind
target_kinds rune address None = UnknownName ∷ []
target_kinds rune address (Some target) = when (not (reaches rune address target)) TooFar

-- what is wrong with a word of a form
abbrev pub reference_kinds : Form → ℕ → Option ℕ → List FaultKind
reference_kinds (Refer rune) address target = target_kinds rune address target
reference_kinds _ address target = []

module _ (source : List ℕ) where
  -- the scope behind some words
  unfoldable pub scope_behind : List PlacedWord → List ℕ
  scope_behind before = scope_after source (map (λ placed. placed.word) before)

  module _ (labels : List Label) where
    -- the target of a word by the words before it, and by the labels of all words
    abbrev pub target_of : List PlacedWord → PlacedWord → Option ℕ
    target_of before placed = target_in labels (scope_behind before) (expanded_text source placed.word) placed

    -- a word with what is wrong with it as a reference
    abbrev pub validated_reference : List PlacedWord → PlacedWord → List PlacedWord → Validated
    validated_reference before placed after = record {
      origin = placed.word.origin;
      kinds = reference_kinds placed.form placed.address (target_of before placed);
    }

    -- the first fault of the references among words
    unfoldable pub reference_fault : List PlacedWord → Option Fault
    reference_fault words = phase_fault (each validated_reference [] words)
