-- Labels, their scopes and their full names (Uxntal syntax reference).
use Rattle.std.specs.Prelude.{ℕ, ◌<◌, length, List, [], ◌∷◌, drop, Option, Some, None, Result, Ok}
use Rattle.std.specs.Option.{option_map_or}
use Rattle.tal_words.specs.declared.span.Expanded.{Expanded}
use Rattle.tal_words.specs.declared.name.Label.{Label}
use Rattle.tal_words.specs.declared.fault.FaultKind.{FaultKind}
use Rattle.tal_words.specs.declared.form.Form.{Form}
use Rattle.tal_words.specs.declared.form.Form.TheVariants.{LabelDef, SubDef}
use Rattle.tal_words.specs.Forms.{form}
use Rattle.tal_words.specs.Names.{first_scope, scope_of, full_name}
use Rattle.tal_words.specs.Order.{collected, last_of}
use Rattle.tal_words.specs.PlainTexts.{IsBlankFree}
use Rattle.tal_words.specs.Source.{expanded_text}
use Rattle.tal_labels.specs.Places.{address_after}

-- the name after `@`
abbrev pub label_name : Result Form FaultKind → List ℕ → Option (List ℕ)
label_name (Ok LabelDef) text = Some (drop 1 text)
label_name _ text = None

-- the full name that a word defines in a scope: `@n` defines n, and `&n` defines the scope, `/` and n
abbrev pub defined_name : Result Form FaultKind → List ℕ → List ℕ → Option (List ℕ)
defined_name (Ok LabelDef) scope text = Some (drop 1 text)
defined_name (Ok SubDef) scope text = Some (full_name scope text)
defined_name _ scope text = None

-- the name of a label is not empty and has no blank in it
pub record IsNamed (label : Label) : Type 0 where
  pub some : 0 < length label.name
  pub blank_free : IsBlankFree label.name

module _ (source : List ℕ) where
  -- no blank stands in a word
  abbrev pub HasNoBlank : Expanded → Type 0
  HasNoBlank word = IsBlankFree (expanded_text source word)

  -- the name of the last `@` of some words
  abbrev pub last_label : List Expanded → Option (List ℕ)
  last_label words = last_of (λ word. label_name (form (expanded_text source word)) (expanded_text source word)) words

  -- the scope by the words before: that of the last `@`, or else the first scope
  unfoldable pub scope_after : List Expanded → List ℕ
  scope_after before = option_map_or scope_of (last_label before) first_scope

  -- the label that a word defines, at the place of the word
  abbrev pub label_at : List Expanded → Option (List ℕ) → List Label
  label_at before None = []
  label_at before (Some name) = record { name = name; address = address_after source before } ∷ []

  abbrev pub labels_given : List Expanded → Expanded → List Expanded → List Label
  labels_given before word after =
      label_at before (defined_name (form (expanded_text source word)) (scope_after before) (expanded_text source word))

  -- the labels in order of definition
  unfoldable pub labels_of : List Expanded → List Label
  labels_of words = collected labels_given [] words
