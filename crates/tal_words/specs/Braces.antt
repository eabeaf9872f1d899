-- Which `}` closes which `{` (Uxntal syntax reference).
use Rattle.std.specs.Prelude.{ℕ, suc, ◌+◌, Bool, false, ◌&&◌, ◌||◌, ◌==◌, if◌then◌else◌, List, []}
use Rattle.std.specs.Prelude.{◌∷◌, Option, Some, None, is_some}
use Rattle.std.specs.Option.{option_map}
use Rattle.tal_words.specs.Source.{is_only}
use Rattle.tal_words.specs.Names.{rune_of}

-- a word opens a brace: `{`, or the rune of a reference and `{` alone
abbrev pub opens : List ℕ → Bool
opens [] = false
opens (first ∷ rest) = is_only 123 (first ∷ rest) || (is_some (rune_of first) && is_only 123 rest)

-- a word closes a brace: `}`
abbrev pub closes : List ℕ → Bool
closes word = is_only 125 word

-- one where the test holds
abbrev pub one_if : Bool → ℕ
one_if test = if test then 1 else 0

-- the index of the first `}` before which as many words open a brace as close one, with so many before the first word
abbrev pub matching_after : ℕ → ℕ → List (List ℕ) → Option ℕ
matching_after opened closed [] = None
matching_after opened closed (word ∷ words) =
    if closes word && opened == closed then Some 0
    else option_map suc (matching_after (opened + one_if (opens word)) (closed + one_if (closes word)) words)

-- the index of the `}` that matches an opener, among the words after the opener
abbrev pub matching : List (List ℕ) → Option ℕ
matching words = matching_after 0 0 words
