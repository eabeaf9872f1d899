-- What a patcher represents.
use Rattle.std.specs.Prelude.{◌≡◌, ◌<◌, ◌≤◌, ℕ, zero, suc, ◌+◌, ◌-◌, Bool, true, false, not}
use Rattle.std.specs.Prelude.{◌&&◌, if◌then◌else◌, List, [], ◌∷◌, ◌++◌, length, map, slice_index, fold}
use Rattle.std.specs.Prelude.{Some, None, is_some}
use Rattle.std.specs.List.{AllByRecursion, filter, flat_map, list_any, list_all}
use Rattle.std.specs.Str.{bytes_eq}
use Rattle.uxn_limits.specs.declared.addresses.TheConstants.{MEMORY_END}
use Rattle.tal_words.specs.declared.span.Expanded.{Expanded}
use Rattle.tal_words.specs.declared.name.Label.{Label}
use Rattle.tal_words.specs.declared.form.Form.{Form}
use Rattle.tal_words.specs.declared.form.Form.TheVariants.{Refer}
use Rattle.tal_words.specs.Braces.{opens}
use Rattle.tal_words.specs.Forms.{size, reaches}
use Rattle.tal_words.specs.Labels.{address_named}
use Rattle.tal_words.specs.Names.{full_name, name_after_rune}
use Rattle.tal_words.specs.Order.{collected, each}
use Rattle.tal_words.specs.Source.{expanded_text}
use Rattle.tal_labels.specs.declared.placed.PlacedWord.{PlacedWord}
use Rattle.tal_labels.specs.Adding.{added_fault, open_ones, word_added}
use Rattle.tal_labels.specs.Labels.{labels_of, scope_after}
use Rattle.tal_labels.specs.Placers.{closed_labels, closed_opener, openers_step, IsOpenAt}
use Rattle.tal_labels.specs.Placing.{placed_of}
use Rattle.tal_labels.specs.Scopes.{scope_text}
use Rattle.tal_rom.specs.declared.hole.Hole.{Hole}
use Rattle.tal_rom.specs.declared.patch.Patch.{Patch}
use Rattle.tal_rom.specs.declared.patcher.Patcher.{Patcher}
use Rattle.tal_rom.specs.Filling.{filled_hole}
use Rattle.tal_rom.specs.Holes.{known_in, wanted_in}
use Rattle.tal_rom.specs.Patching.{Added, added_given, waits, is_far, known_piece}
use Rattle.tal_rom.specs.References.{scope_behind}
use Rattle.tal_rom.specs.Rom.{byte_at}

-- a placer gave this word behind some words of a source
abbrev pub WasGiven : List ℕ → PlacedWord → Type 0
WasGiven source placed = (words : List Expanded) × (word_added source words placed.word ≡ Some placed)

-- a reference as a hole
abbrev pub holes_by : Form → ℕ → Bool → List Hole
holes_by (Refer rune) address true = record { rune = rune; address = address } ∷ []
holes_by _ address is_hole = []

-- what is patched: words of a source with their places, its labels so far, and the indices of the words whose lambdas are open
pub record PatchModel : Type 0 where
  pub source : List ℕ
  pub labels : List Label
  pub words : List PlacedWord
  pub openers : List ℕ

-- with one word more, which opens a lambda or does not
abbrev pub with_word : Bool → PlacedWord → PatchModel → PatchModel
with_word opening placed model = record model {
  words = model.words ++ placed ∷ [];
  openers = openers_step opening false (length model.words) model.openers;
}

-- with one label more
abbrev pub with_label : Label → PatchModel → PatchModel
with_label label model = record model { labels = model.labels ++ label ∷ [] }

-- with the end of the last lambda that is open
abbrev pub with_end : ℕ → PatchModel → PatchModel
with_end address model = record model {
  words = closed_labels (closed_opener false true model.openers) address model.words;
  openers = openers_step false true 0 model.openers;
}

-- the words with their targets
abbrev pub added_in : PatchModel → List Added
added_in model = each (added_given model.source model.labels) [] model.words

-- the word at an index as a hole
abbrev pub hole_at : List PlacedWord → ℕ → List Hole
hole_at [] at = []
hole_at (placed ∷ words) zero = holes_by placed.form placed.address true
hole_at (placed ∷ words) (suc at) = hole_at words at

module _ (source : List ℕ) where
  -- the hole of a word that looks up a full name
  abbrev pub name_hole : List ℕ → List PlacedWord → PlacedWord → List PlacedWord → List Hole
  name_hole name before placed after =
      holes_by placed.form placed.address (not (opens (expanded_text source placed.word))
      && bytes_eq name (full_name (scope_behind source before) (name_after_rune (expanded_text source placed.word))))

  -- the addresses from a word's own on, as many as its size says
  abbrev pub span_of_word : PlacedWord → ℕ × ℕ
  span_of_word placed = (placed.address, size placed.form (expanded_text source placed.word))

abbrev pub added_span : Added → ℕ × ℕ
added_span word = (word.address, size word.form word.text)

-- the words that wait for a full name, which is not defined
abbrev pub holes_named : PatchModel → List ℕ → List Hole
holes_named model name =
    if is_some (address_named model.labels name) then [] else collected (name_hole model.source name) [] model.words

-- each of the openers is open
abbrev pub AreOpen : PatchModel → Type 0
AreOpen model = AllByRecursion (IsOpenAt model.source model.words) model.openers

-- a span with bytes begins at or above an address; it ends at or below one
abbrev pub IsAbove : ℕ → ℕ × ℕ → Type 0
IsAbove low span = 0 < span.1 → low ≤ span.0

abbrev pub IsBelow : ℕ → ℕ × ℕ → Type 0
IsBelow high span = 0 < span.1 → span.0 + span.1 ≤ high

-- each span with bytes lies above those before it
abbrev pub AreAscending : List (ℕ × ℕ) → Type 0
AreAscending [] = Unit {0}
AreAscending (span ∷ spans) = (0 < span.1 → AllByRecursion (IsAbove (span.0 + span.1)) spans) × AreAscending spans

abbrev pub memory_size : ℕ
memory_size = MEMORY_END

-- what a patch represents: memory with what is known of it, how many wait, whether all fit, the names, and the lambdas that
-- are open
pub record PatchHolds (model : PatchModel) (patch : Patch) : Type 0 where
  pub ascending : AreAscending (map (span_of_word model.source) model.words)
  pub size : length patch.memory.items ≡ memory_size
  pub each : (at : ℕ) → at < memory_size → slice_index patch.memory.items at ≡ byte_at (map known_piece (added_in model)) at
  pub waiting : patch.waiting ≡ length (filter waits (added_in model))
  pub fits : patch.fits ≡ not (list_any is_far (added_in model))
  pub known : (name : List ℕ) → known_in patch.names name ≡ address_named model.labels name
  pub wanted : (name : List ℕ) → wanted_in patch.names name ≡ holes_named model name
  pub openers : patch.openers.items ≡ flat_map (hole_at model.words) model.openers

-- a word of this form and text at this address comes next, behind few others
pub record ComesNext (model : PatchModel) (placed : PlacedWord) (form : Form) (text : List ℕ) (address : ℕ) : Type 0 where
  pub shape : placed.form ≡ form
  pub read : expanded_text model.source placed.word ≡ text
  pub here : placed.address ≡ address
  pub unended : placed.lambda ≡ None
  pub behind : 0 < size form text → AllByRecursion (IsBelow address) (map (span_of_word model.source) model.words)
  pub few : length model.words < 4294967295
  pub open_before : AreOpen model

-- holes were filled with their target
pub record AreFilled (target : ℕ) (holes : List Hole) (old new : Patch) : Type 0 where
  pub memory : new.memory.items ≡ fold (filled_hole target) old.memory.items holes
  pub fits : new.fits ≡ (old.fits && list_all (λ hole. reaches hole.rune hole.address target) holes)
  pub waiting : new.waiting ≡ old.waiting - length holes
  pub names : new.names ≡ old.names
  pub openers : new.openers ≡ old.openers

-- the words of a source
abbrev pub model_of : List ℕ → List Expanded → PatchModel
model_of source words = record {
  source = source;
  labels = labels_of source words;
  words = placed_of source words;
  openers = open_ones source words;
}

-- these words were added to a patcher
pub record WerePatched (source : List ℕ) (words : List Expanded) (patcher : Patcher) : Type 0 where
  pub sound : added_fault source words ≡ None
  pub scope : scope_text source patcher.scope ≡ scope_after source words
  pub holds : PatchHolds (model_of source words) patcher.patch
