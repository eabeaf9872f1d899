-- The names of labels are not empty and have no blank in them, where no word has one.
use Rattle.tal_labels.proofs.Common.{◌≡◌, ℕ, zero, suc, ◌<◌, true, not, List, [], ◌∷◌, ◌++◌, length, take, drop, Option, Some, None, Result, Ok, refl}
use Rattle.tal_labels.proofs.Common.{arith, length-append, ◌==◌, option_map_or, prefix_len, AllByRecursion, list_any-append, Expanded, FaultKind}
use Rattle.tal_labels.proofs.Common.{Form, LabelDef, SubDef, expanded_text, first_scope, scope_of, full_name, slash, rune_of, name_fault, form}
use Rattle.tal_labels.proofs.Common.{collected, label_name, defined_name, last_label, scope_after, label_at, labels_given}
use Rattle.tal_labels.proofs.Common.{labels_of, HasNoBlank, IsNamed, is_mark_form}
use Rattle.std.specs.Option.{option_or}
use Rattle.tal_words.specs.Forms.{reference, bare}
use Rattle.tal_words.specs.declared.form.Rune.{Rune}
use Rattle.tal_words.specs.PlainTexts.{IsBlankFree}
use Rattle.tal_words.proofs.BlankFree.{all_joined}

drop_plain : (text : List ℕ) → IsBlankFree text → IsBlankFree (drop 1 text)
drop_plain text plain = grind arith

take_plain : (n : ℕ) (text : List ℕ) → IsBlankFree text → IsBlankFree (take n text)
take_plain zero text plain = refl
take_plain (suc n) [] plain = refl
take_plain (suc n) (first ∷ rest) plain = grind (arith, take_plain n rest)

-- a name of a label is not empty
bare_no_label : (rune : Option Rune) (first : ℕ) → option_map_or (λ rune. reference rune []) rune (Ok (bare (first ∷ []))) ≡ Ok LabelDef → ⊥
bare_no_label rune first e = grind arith

label_named : (text : List ℕ) → form text ≡ Ok LabelDef → 0 < length (drop 1 text)
unfolding form name_fault
label_named [] e = cc
label_named (first ∷ []) e = absurd (grind (arith, bare_no_label (rune_of first) first))
label_named (first ∷ second ∷ rest) e = omega arith

-- the word of a mark is not empty
pub not_empty : (text : List ℕ) (shape : Form) → form text ≡ Ok shape → is_mark_form shape ≡ true → 0 < length text
unfolding form
not_empty [] shape e mark = cc
not_empty (first ∷ rest) shape e mark = omega arith

full_plain : (scope text : List ℕ) → IsBlankFree scope → IsBlankFree text → IsBlankFree (full_name scope text)
full_plain scope text scope_plain plain = grind (arith, list_any-append, drop_plain text plain)

full_some : (scope text : List ℕ) → 0 < length text → 0 < length (full_name scope text)
full_some scope text some = grind (arith, length-append)

-- the scope of the last label
abbrev IsPlainScope : Option (List ℕ) → Type 0
IsPlainScope name = IsBlankFree (option_map_or scope_of name first_scope)

label_plain : (answer : Result Form FaultKind) (text : List ℕ) → IsBlankFree text → IsPlainScope (label_name answer text)
label_plain (Ok LabelDef) text plain = take_plain (prefix_len (λ byte. not (byte == slash)) (drop 1 text)) (drop 1 text) (drop_plain text plain)
label_plain _ text plain = refl

later_plain : (later earlier : Option (List ℕ)) → IsPlainScope later → IsPlainScope earlier → IsPlainScope (option_or later earlier)
later_plain (Some name) earlier a b = a
later_plain None earlier a b = b

module _ (source : List ℕ) where
  scope_plain : (words : List Expanded) → AllByRecursion (HasNoBlank source) words → IsBlankFree (scope_after source words)
  unfolding scope_after
  scope_plain [] all = refl
  scope_plain (word ∷ words) all =
      let text = expanded_text source word in
      later_plain (last_label source words) (label_name (form text) text) (scope_plain words all.1) (label_plain (form text) text all.0)

  given_named : (before : List Expanded) (answer : Result Form FaultKind) (scope text : List ℕ) → form text ≡ answer → IsBlankFree text → IsBlankFree scope
      → AllByRecursion IsNamed (label_at source before (defined_name answer scope text))
  given_named before (Ok LabelDef) scope text e plain scoped = (record { some = label_named text e; blank_free = drop_plain text plain }, tt)
  given_named before (Ok SubDef) scope text e plain scoped = (record { some = full_some scope text (not_empty text SubDef e refl); blank_free = full_plain scope text scoped plain }, tt)
  given_named before _ scope text e plain scoped = tt

  collected_named : (before words : List Expanded) → AllByRecursion (HasNoBlank source) before → AllByRecursion (HasNoBlank source) words
      → AllByRecursion IsNamed (collected (labels_given source) before words)
  collected_named before [] earlier all = tt
  collected_named before (word ∷ words) earlier all =
      all_joined IsNamed (labels_given source before word words) (collected (labels_given source) (before ++ word ∷ []) words)
      (given_named before (form (expanded_text source word)) (scope_after source before) (expanded_text source word) refl all.0 (scope_plain before earlier))
      (collected_named (before ++ word ∷ []) words (all_joined (HasNoBlank source) before (word ∷ []) earlier (all.0, tt)) all.1)

  pub all_named : (words : List Expanded) → AllByRecursion (HasNoBlank source) words → AllByRecursion IsNamed (labels_of source words)
  unfolding labels_of
  all_named words all = collected_named [] words tt all
