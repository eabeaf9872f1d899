-- Texts that are made of plain words and of comments of one word, each with a blank behind it.
use Rattle.std.specs.Prelude.{◌≡◌, ℕ, ◌<◌, ◌≤◌, true, false, List, [], ◌∷◌, ◌++◌, length}
use Rattle.std.specs.List.{flat_map, list_any, AllByRecursion}
use Rattle.uxn_limits.specs.declared.limits.TheConstants.{WORD_LIMIT}
use Rattle.tal_words.specs.Source.{is_blank, begins, is_only}
use Rattle.tal_words.specs.Braces.{opens, closes}

-- a token and the blank behind it
pub record Chunk : Type 0 where
  pub text : List ℕ
  pub blank : ℕ

abbrev pub chunk_text : Chunk → List ℕ
chunk_text chunk = chunk.text ++ chunk.blank ∷ []

-- a comment of one word, or a plain word, with the blank behind it
pub data Item : Type 0 where
  Comment : List ℕ → ℕ → Item
  PlainWord : List ℕ → ℕ → Item

-- the tokens of an item: 40 is `(` and 41 is `)`
abbrev pub chunks_of_item : Item → List Chunk
chunks_of_item (Comment text blank) =
    record { text = 40 ∷ []; blank = 32 } ∷ record { text = text; blank = 32 } ∷ record { text = 41 ∷ []; blank = blank } ∷ []
chunks_of_item (PlainWord text blank) = record { text = text; blank = blank } ∷ []

-- the text of items
abbrev pub text_of_items : List Item → List ℕ
text_of_items items = flat_map chunk_text (flat_map chunks_of_item items)

-- the words of items
abbrev pub words_of_item : Item → List (List ℕ)
words_of_item (Comment text blank) = []
words_of_item (PlainWord text blank) = text ∷ []

abbrev pub words_of_items : List Item → List (List ℕ)
words_of_items items = flat_map words_of_item items

-- no byte of a text parts tokens
abbrev pub IsBlankFree : List ℕ → Type 0
IsBlankFree text = list_any is_blank text ≡ false

-- a plain word: not empty, not too long, without blanks, and it begins no comment or head and opens or closes no brace; 37 is `%`
pub record IsPlainWord (text : List ℕ) : Type 0 where
  pub some : 0 < length text
  pub short : length text ≤ WORD_LIMIT
  pub blank_free : IsBlankFree text
  pub no_comment : begins 40 text ≡ false
  pub no_paren : begins 41 text ≡ false
  pub no_head : begins 37 text ≡ false
  pub unopened : opens text ≡ false
  pub unclosed : closes text ≡ false

-- the word in a comment is no parenthesis
pub record IsComment (text : List ℕ) : Type 0 where
  pub some : 0 < length text
  pub blank_free : IsBlankFree text
  pub unopened : is_only 40 text ≡ false
  pub unclosed : is_only 41 text ≡ false

abbrev pub IsItem : Item → Type 0
IsItem (Comment text blank) = IsComment text × (is_blank blank ≡ true)
IsItem (PlainWord text blank) = IsPlainWord text × (is_blank blank ≡ true)

abbrev pub AreItems : List Item → Type 0
AreItems items = AllByRecursion IsItem items
