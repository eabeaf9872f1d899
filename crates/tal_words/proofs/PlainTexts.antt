-- The words of a text of words and of comments of one token.
use Rattle.std.proofs.Common.{◌≡◌, ℕ, ◌≤◌, Bool, false, not, List, [], ◌∷◌, ◌++◌, length, map, None, refl, arith}
use Rattle.std.specs.Prelude.{if◌then◌else◌, ◌||◌, ◌&&◌, ◌==◌, nat_lt}
use Rattle.std.specs.List.{flat_map, AllByRecursion}
use Rattle.std.proofs.lemmas.Bool.{le-ltb}
use Rattle.std.proofs.lemmas.List.{map-append}
use Rattle.std.proofs.lemmas.List.Sums.{fold_push}
use Rattle.uxn_limits.specs.declared.limits.TheConstants.{WORD_LIMIT, TEXT_LIMIT}
use Rattle.tal_words.specs.declared.span.Word.{Word}
use Rattle.tal_words.specs.declared.fault.FaultKind.{FaultKind}
use Rattle.tal_words.specs.declared.fault.FaultKind.TheVariants.{OpenComment, LongWord, StrayParen}
use Rattle.tal_words.specs.Source.{begins, word_text, tokens_of}
use Rattle.tal_words.specs.Faults.{when, phase_fault}
use Rattle.tal_words.specs.Comments.{depth_after, comment_depth, closed_comment, validated_token, word_given, words_of, word_fault}
use Rattle.tal_words.specs.Order.{each, collected}
use Rattle.tal_words.specs.PlainTexts.{Chunk, Item, Comment, PlainWord, chunks_of_item, text_of_items, words_of_item, IsPlainWord, AreItems}
use Rattle.tal_words.proofs.PlainTokens.{AreChunks, texts_of_tokens}

-- a token of this text is a word where so many comments are open, or opens one
abbrev pub speaks : ℕ → List ℕ → Bool
speaks depth text = depth == 0 && not (begins 40 text)

abbrev pub opens_one : ℕ → List ℕ → Bool
opens_one depth text = depth == 0 && begins 40 text

-- the words among tokens of these texts, so many comments open before the first
abbrev pub words_outside : ℕ → List (List ℕ) → List (List ℕ)
words_outside depth [] = []
words_outside depth (text ∷ texts) = (if speaks depth text then text ∷ [] else []) ++ words_outside (depth_after depth text) texts

-- behind one of the tokens no comment is open
abbrev pub closes_within : ℕ → List (List ℕ) → Bool
closes_within depth [] = false
closes_within depth (text ∷ texts) = depth_after depth text == 0 || closes_within (depth_after depth text) texts

abbrev pub text_faults : ℕ → List ℕ → List (List ℕ) → List FaultKind
text_faults depth text texts =
    when (opens_one depth text && not (closes_within (depth_after depth text) texts)) OpenComment
    ++ when (speaks depth text && nat_lt WORD_LIMIT (length text)) LongWord
    ++ when (speaks depth text && begins 41 text) StrayParen

-- no token of these texts has a fault
abbrev pub AreSound : ℕ → List (List ℕ) → Type 0
AreSound depth [] = Unit {0}
AreSound depth (text ∷ texts) = (text_faults depth text texts ≡ []) × AreSound (depth_after depth text) texts

module _ (source : List ℕ) where
  depth_more : (before : List Word) (token : Word) (depth : ℕ) → comment_depth source before ≡ depth
      → comment_depth source (before ++ token ∷ []) ≡ depth_after depth (word_text source token)
  unfolding comment_depth
  depth_more before token depth e =
      rw (fold_push (λ (depth : ℕ) (token : Word). depth_after depth (word_text source token)) 0 before token, e) refl

  words_same : (tokens before : List Word) (depth : ℕ) → comment_depth source before ≡ depth
      → map (word_text source) (collected (word_given source) before tokens) ≡ words_outside depth (map (word_text source) tokens)
  words_same [] before depth e = refl
  words_same (token ∷ tokens) before depth e =
      let rest = words_same tokens (before ++ token ∷ []) (depth_after depth (word_text source token)) (depth_more before token depth e) in
      rw (map-append, rest, e) (grind arith)

  closed_same : (tokens before : List Word) (depth : ℕ) → comment_depth source before ≡ depth
      → closed_comment source before tokens ≡ closes_within depth (map (word_text source) tokens)
  closed_same [] before depth e = refl
  closed_same (token ∷ tokens) before depth e =
      let next = depth_more before token depth e in
      rw (next, closed_same tokens (before ++ token ∷ []) (depth_after depth (word_text source token)) next) refl

  sound_same : (tokens before : List Word) (depth : ℕ) → comment_depth source before ≡ depth → AreSound depth (map (word_text source) tokens)
      → phase_fault (each (validated_token source) before tokens) ≡ None
  sound_same [] before depth e sound = refl
  sound_same (token ∷ tokens) before depth e sound =
      let next = depth_more before token depth e in
      rw (closed_same tokens (before ++ token ∷ []) (depth_after depth (word_text source token)) next, e, sound.0)
      (sound_same tokens (before ++ token ∷ []) (depth_after depth (word_text source token)) next sound.1)

abbrev texts_of : List Chunk → List (List ℕ)
texts_of chunks = map (λ chunk. chunk.text) chunks

abbrev chunks_of : List Item → List Chunk
chunks_of items = flat_map chunks_of_item items

are_chunks : (items : List Item) → AreItems items → AreChunks (chunks_of items)
are_chunks [] are = tt
are_chunks (Comment text blank ∷ items) are = (
  record { some = omega arith; plain = refl; parted = refl },
  (
    record { some = are.0.0.some; plain = are.0.0.blank_free; parted = refl },
    (record { some = omega arith; plain = refl; parted = are.0.1 }, are_chunks items are.1),
  ),
)
are_chunks (PlainWord text blank ∷ items) are =
    (record { some = are.0.0.some; plain = are.0.0.blank_free; parted = are.0.1 }, are_chunks items are.1)

outside_items : (items : List Item) → AreItems items → words_outside 0 (texts_of (chunks_of items)) ≡ flat_map words_of_item items
outside_items [] are = refl
outside_items (Comment text blank ∷ items) are = rw (are.0.0.unopened, are.0.0.unclosed) (outside_items items are.1)
outside_items (PlainWord text blank ∷ items) are = rw (are.0.0.no_comment, outside_items items are.1) refl

items_sound : (items : List Item) → AreItems items → AreSound 0 (texts_of (chunks_of items))
items_sound [] are = tt
items_sound (Comment text blank ∷ items) are = rw (are.0.0.unopened, are.0.0.unclosed) (refl, (refl, (refl, items_sound items are.1)))
items_sound (PlainWord text blank ∷ items) are =
    let short = le-ltb WORD_LIMIT (length text) are.0.0.short in
    rw (are.0.0.no_comment, are.0.0.no_paren, short) (refl, items_sound items are.1)

-- the words of the text are those of the items
pub words_are : (items : List Item) → AreItems items
    → map (word_text (text_of_items items)) (words_of (text_of_items items)) ≡ flat_map words_of_item items
unfolding words_of comment_depth
words_are items are =
    let source = text_of_items items in
    rw (words_same source (tokens_of source) [] 0 refl, texts_of_tokens (chunks_of items) (are_chunks items are)) (outside_items items are)

-- and none of its tokens has a fault
pub no_word_fault : (items : List Item) → AreItems items → length (text_of_items items) ≤ TEXT_LIMIT → word_fault (text_of_items items) ≡ None
unfolding word_fault comment_depth
no_word_fault items are short =
    let source = text_of_items items in
    let sound = rw (← texts_of_tokens (chunks_of items) (are_chunks items are)) at (items_sound items are) in
    rw (le-ltb TEXT_LIMIT (length source) short) (sound_same source (tokens_of source) [] 0 refl sound)

-- each of the words is plain
pub words_plain : (items : List Item) → AreItems items → AllByRecursion IsPlainWord (flat_map words_of_item items)
words_plain [] are = tt
words_plain (Comment text blank ∷ items) are = words_plain items are.1
words_plain (PlainWord text blank ∷ items) are = (are.0.0, words_plain items are.1)
