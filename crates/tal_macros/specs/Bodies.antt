-- Macros as the expansion keeps them: bodies are parts of the list of words.
use Rattle.std.specs.Prelude.{ℕ, ◌-◌, List, [], ◌∷◌, take, drop, slice_index_or, Vec}
use Rattle.std.specs.declared.alloc.Global.{Global}
use Rattle.tal_words.specs.declared.span.Word.{Word}
use Rattle.tal_macros.specs.Expansion.{Macro}
use Rattle.tal_macros.specs.declared.body.Body.{Body}

-- the word at an index of the list
abbrev pub word_at : List Word → ℕ → Word
word_at words at = slice_index_or words at (record { span = record { start = 0; end = 0 }; line = 0; column = 0 })

-- the words of a body
abbrev pub body_words : List Word → Body → List Word
body_words words body = take (body.to - body.from) (drop body.from words)

-- the macros that the entries of a map represent
abbrev pub known_macros : List Word → List (Vec ℕ Global × Body) → List Macro
known_macros words [] = []
known_macros words (entry ∷ entries) = record { name = entry.0.items; body = body_words words entry.1 } ∷ known_macros words entries
