-- Macros: their heads, their uses, and the list of words that they give (Uxntal syntax reference; profile: the limits).
use Rattle.std.specs.Prelude.{ℕ, zero, suc, ◌+◌, Bool, not, ◌&&◌, ◌==◌, nat_le, if◌then◌else◌, List, []}
use Rattle.std.specs.Prelude.{◌∷◌, ◌++◌, map, filter, length, take, drop, Option, Some, None, is_some, is_none}
use Rattle.std.specs.Prelude.{unwrap_or}
use Rattle.std.specs.Option.{option_map, option_to_list}
use Rattle.std.specs.List.{flat_map}
use Rattle.std.specs.Str.{bytes_eq}
use Rattle.uxn_limits.specs.declared.limits.TheConstants.{VISIT_LIMIT, MACRO_DEPTH}
use Rattle.tal_words.specs.declared.span.Span.{Span}
use Rattle.tal_words.specs.declared.span.Word.{Word}
use Rattle.tal_words.specs.declared.span.Expanded.{Expanded}
use Rattle.tal_words.specs.declared.fault.Fault.{Fault}
use Rattle.tal_words.specs.declared.fault.FaultKind.{FaultKind}
use Rattle.tal_words.specs.declared.fault.FaultKind.TheVariants.{MacroTwice, MacroBody, MacroDeep, ManyWords}
use Rattle.tal_words.specs.Order.{collected}
use Rattle.tal_words.specs.Source.{begins, is_only, word_text}
use Rattle.tal_words.specs.Faults.{Validated, when, phase_fault}
use Rattle.tal_words.specs.Comments.{words_of}
use Rattle.tal_words.specs.Names.{name_fault}
use Rattle.tal_words.specs.Braces.{matching}

-- a macro: its name, and the words of its body
pub record Macro : Type 0 where
  pub name : List ℕ
  pub body : List Word

-- the body of the macro of a name
abbrev pub body_named : List Macro → List ℕ → Option (List Word)
body_named [] name = None
body_named (known ∷ others) name = if bytes_eq name known.name then Some known.body else body_named others name

-- what a word of the source is: one outside heads, the first of a head, with the head's body if that is closed, or a further
-- one of a head
pub data Part : Type 0 where
  Plain : Word → Part
  Head : Word → Option (List Word) → Part
  Inside : Word → Part

-- a word of the visit list: the word of the source that was visited for it, its text, how much deeper uses may go, and
-- whether it is itself a use
pub record Visited : Type 0 where
  pub origin : Word
  pub text : Span
  pub room : ℕ
  pub is_use : Bool

-- how many words of a head follow its first: the body and its braces
abbrev pub head_length : Option (List Word) → ℕ
head_length None = 0
head_length (Some body) = length body + 2

-- what is wrong with a word of the visit list, by how many stand before it: it is a use that stands too deep, or it stands past the
-- limit. The first word of the list that has a fault is the limit word
abbrev pub visit_kinds : ℕ → Visited → List FaultKind
visit_kinds before word = when (word.is_use && word.room == 0) MacroDeep ++ when (nat_le VISIT_LIMIT before) ManyWords

-- words of the visit list with what is wrong with them, so many of the list before the first
abbrev pub validated_visits : ℕ → List Visited → List Validated
validated_visits before [] = []
validated_visits before (word ∷ words) = record { origin = word.origin; kinds = visit_kinds before word } ∷ validated_visits (before + 1) words

-- the words that are no uses, each with its origin
abbrev pub without_uses : List Visited → List Expanded
without_uses words = map (λ word. record { text = word.text; origin = word.origin }) (filter (λ word. not word.is_use) words)

module _ (source : List ℕ) where
  -- the body of a head, by the words after its first: what stands between `{` and the matching `}`
  abbrev pub body_after : List Word → Option (List Word)
  body_after [] = None
  body_after (brace ∷ words) =
      if is_only 123 (word_text source brace) then option_map (λ count. take count words) (matching (map (word_text source) words))
      else None

  -- the body of the macro that a word defines, by the words after it
  abbrev pub body_defined : Word → List Word → Option (List Word)
  body_defined word words = if begins 37 (word_text source word) then body_after words else None

  -- what a word is that stands in no head before it
  abbrev pub part_of : Word → Option (List Word) → Part
  part_of word body = if begins 37 (word_text source word) then Head word body else Plain word

  -- what each word is, where so many of the words belong to the last head
  abbrev pub parts_from : ℕ → List Word → List Part
  parts_from inside [] = []
  parts_from (suc inside) (word ∷ words) = Inside word ∷ parts_from inside words
  parts_from zero (word ∷ words) =
      part_of word (body_defined word words) ∷ parts_from (head_length (body_defined word words)) words

  -- the macro that a part defines
  abbrev pub macro_given : Part → List Macro
  macro_given (Head word body) = map (λ words. record { name = drop 1 (word_text source word); body = words }) (option_to_list body)
  macro_given _ = []

  -- the macros that are known at a word: those of the heads before it
  unfoldable pub known_at : List Part → List Macro
  known_at before = flat_map macro_given before

  module _ (known : List Macro) (origin : Word) where
    -- a word as it is visited
    abbrev pub visited : ℕ → Word → Visited
    visited room word =
        record { origin = origin; text = word.span; room = room; is_use = is_some (body_named known (word_text source word)) }

    -- the words visited for a word: itself, and for a use, with room left, those of the words of its body
    unfoldable pub visits : ℕ → Word → List Visited
    visits zero word = visited zero word ∷ []
    visits (suc room) word =
        visited (suc room) word ∷ flat_map (visits room) (unwrap_or (body_named known (word_text source word)) [])

  -- the words visited for a part, by the parts before it
  abbrev pub visits_given : List Part → Part → List Part → List Visited
  visits_given before (Plain word) after = visits (known_at before) word MACRO_DEPTH word
  visits_given before _ after = []

  -- the visit list
  unfoldable pub visit_list : List Part → List Visited
  visit_list parts = collected visits_given [] parts

  -- what is wrong with a head
  abbrev pub head_faults : Word → List Macro → Option (List Word) → List FaultKind
  head_faults word known body =
      let name = drop 1 (word_text source word) in
      option_to_list (name_fault name) ++ when (is_some (body_named known name)) MacroTwice ++ when (is_none body) MacroBody

  -- the words visited for a part, a head, or a further word of a head, with what is wrong with each
  abbrev pub validated_part : List Part → Part → List Part → List Validated
  validated_part before (Plain word) after = validated_visits (length (visit_list before)) (visits (known_at before) word MACRO_DEPTH word)
  validated_part before (Head word body) after = record { origin = word; kinds = head_faults word (known_at before) body } ∷ []
  validated_part before (Inside word) after = record { origin = word; kinds = when (begins 37 (word_text source word)) MacroBody } ∷ []

-- what each word of a source is
unfoldable pub parts_of : List ℕ → List Part
parts_of source = parts_from source 0 (words_of source)

-- the expanded list of a source: its visit list without the uses
unfoldable pub expanded_of : List ℕ → List Expanded
expanded_of source = without_uses (visit_list source (parts_of source))

-- the first fault of the macros of a source
unfoldable pub expansion_fault : List ℕ → Option Fault
expansion_fault source = phase_fault (collected (validated_part source) [] (parts_of source))
