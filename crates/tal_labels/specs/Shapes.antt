-- What is wrong with words by themselves and with their braces (profile: the kinds).
use Rattle.std.specs.Prelude.{Some, ℕ, ◌+◌, ◌-◌, ◌==◌, Bool, false, not, ◌&&◌, List, []}
use Rattle.std.specs.Prelude.{◌∷◌, ◌++◌, length, map, fold, Option, None, is_some, Result, Ok, Err, if◌then◌else◌}
use Rattle.std.specs.Option.{option_map}
use Rattle.std.specs.List.{list_any}
use Rattle.tal_words.specs.declared.span.Expanded.{Expanded}
use Rattle.tal_words.specs.declared.fault.Fault.{Fault}
use Rattle.tal_words.specs.declared.fault.FaultKind.{FaultKind}
use Rattle.tal_words.specs.declared.fault.FaultKind.TheVariants.{StrayBrace, OpenBrace}
use Rattle.tal_words.specs.declared.form.Form.{Form}
use Rattle.tal_words.specs.Faults.{Validated, when, phase_fault}
use Rattle.tal_words.specs.Forms.{form}
use Rattle.tal_words.specs.Braces.{opens, closes, matching}
use Rattle.tal_words.specs.Order.{each}
use Rattle.tal_words.specs.Source.{expanded_text}

-- how many lambdas are open after a word
abbrev pub open_after : ℕ → List ℕ → ℕ
open_after depth text = if opens text then depth + 1 else if closes text then depth - 1 else depth

-- what is wrong with a word of a form, where so many lambdas are open before it, by whether its own lambda is closed;
-- the form of a word that opens or closes a lambda is never wrong
abbrev pub shape_kinds : Result Form FaultKind → List ℕ → ℕ → Bool → List FaultKind
shape_kinds (Err kind) text depth is_closed = kind ∷ []
shape_kinds (Ok shape) text depth is_closed = when (closes text && depth == 0) StrayBrace ++ when (opens text && not is_closed) OpenBrace

-- an index is this one
abbrev pub is_at : ℕ → Option ℕ → Bool
is_at index None = false
is_at index (Some other) = other == index

module _ (source : List ℕ) where
  -- how many lambdas are open after some words
  unfoldable pub open_count : List Expanded → ℕ
  open_count words = fold (λ depth word. open_after depth (expanded_text source word)) 0 words

  -- how many words stand between an opener and the `}` that closes it
  abbrev pub closing_distance : List Expanded → Option ℕ
  closing_distance after = matching (map (expanded_text source) after)

  -- an opener among some words has the word behind them as its matching `}`
  abbrev pub closes_one_of : List Expanded → Expanded → Bool
  closes_one_of before word =
      list_any (λ found. found)
      (each
      (λ earlier opener between. opens (expanded_text source opener) && is_at (length between) (closing_distance (between ++ word ∷ [])))
      [] before)

  -- a word with what is wrong with its shape
  abbrev pub validated_shape : List Expanded → Expanded → List Expanded → Validated
  validated_shape before word after = record {
    origin = word.origin;
    kinds =
        shape_kinds (form (expanded_text source word)) (expanded_text source word) (open_count before)
        (is_some (closing_distance after));
  }

  -- the index of the `}` that closes the lambda of an opener
  abbrev pub closer_of : List Expanded → Expanded → List Expanded → Option ℕ
  closer_of before word after =
      if opens (expanded_text source word) then option_map (λ between. length before + 1 + between) (closing_distance after) else None

  unfoldable pub closers_of : List Expanded → List (Option ℕ)
  closers_of words = each closer_of [] words

  -- the first fault of the shapes of words
  unfoldable pub shape_fault : List Expanded → Option Fault
  shape_fault words = phase_fault (each validated_shape [] words)
