-- Words, bodies and macros as lists.
use Rattle.tal_macros.proofs.Common.{◌≡◌, ℕ, ◌+◌, ◌<◌, Bool, List, [], ◌∷◌, ◌++◌, length, drop, None, refl, arith, Vec, option_map, drop_more, Word}
use Rattle.tal_macros.proofs.Common.{body_named, Body, body_words, known_macros, word_at}
use Rattle.std.specs.Map.{lookup}
use Rattle.std.specs.Str.{bytes_eq}
use Rattle.std.specs.declared.alloc.Global.{Global}
use Rattle.indexmap.specs.IndexMap.{insert_entry}

-- the words from an index on begin with the word at it
pub drop-word : (words : List Word) (at : ℕ) → at < length words → drop at words ≡ word_at words at ∷ drop (at + 1) words
drop-word words at within = drop_more words at (record { span = record { start = 0; end = 0 }; line = 0; column = 0 }) within

-- the body that a map finds is that of the macro
pub known-lookup : (words : List Word) (entries : List (Vec ℕ Global × Body)) (name : List ℕ)
    → option_map (body_words words) (lookup (λ key. bytes_eq name key.items) entries) ≡ body_named (known_macros words entries) name
known-lookup words [] name = refl
known-lookup words (entry ∷ entries) name = grind (arith, known-lookup words entries name)

-- a new macro is known after the others
pub known-insert : (words : List Word) (eq : Vec ℕ Global → Vec ℕ Global → Bool) (entries : List (Vec ℕ Global × Body)) (key : Vec ℕ Global) (body : Body)
    → ((one other : Vec ℕ Global) → eq one other ≡ bytes_eq one.items other.items)
    → body_named (known_macros words entries) key.items ≡ None
    → known_macros words (insert_entry eq entries key body) ≡ known_macros words entries ++ record { name = key.items; body = body_words words body } ∷ []
known-insert words eq [] key body same none = refl
known-insert words eq (entry ∷ entries) key body same none = grind (arith, same, known-insert words eq entries key body same)
