-- Where the tokens of a text begin of which each has one blank behind it, and that they are its words if none begins a comment.
use Rattle.std.proofs.Common.{◌≡◌, ℕ, ◌≤◌, false, List, [], ◌∷◌, ◌++◌, length, map, refl, None}
use Rattle.std.specs.List.{AllByRecursion}
use Rattle.std.proofs.lemmas.Bool.{le-ltb}
use Rattle.std.proofs.lemmas.List.Sums.{fold_push}
use Rattle.uxn_limits.specs.declared.limits.TheConstants.{WORD_LIMIT, TEXT_LIMIT}
use Rattle.tal_words.specs.declared.span.Word.{Word}
use Rattle.tal_words.specs.Faults.{phase_fault}
use Rattle.tal_words.specs.Order.{each, collected}
use Rattle.tal_words.specs.Comments.{depth_after, comment_depth, validated_token, word_given, words_of, word_fault}
use Rattle.tal_words.specs.PlainTexts.{Chunk}
use Rattle.tal_words.specs.Source.{begins, word_text, token_at, tokens_of}
use Rattle.tal_words.proofs.PlainTokens.{text_of_chunks, AreChunks, read_along, read_of_tokens, texts_of_tokens}

-- where chunks begin, if the first begins here
abbrev pub starts : ℕ → List Chunk → List ℕ
starts from chunks = read_along (λ at chunk. at) from chunks

token_start : (source : List ℕ) (at : ℕ) → (token_at source at).span.start ≡ at
unfolding token_at
token_start source at = refl

-- where the tokens of chunks begin
pub starts_of_tokens : (chunks : List Chunk) → AreChunks chunks
    → map (λ (w : Word). w.span.start) (tokens_of (text_of_chunks chunks)) ≡ starts 0 chunks
starts_of_tokens chunks are =
    read_of_tokens chunks (λ w. w.span.start) (λ at chunk. at) (λ prefix chunk rest is split. token_start (text_of_chunks chunks) (length prefix)) are

-- the text of a word: it begins no comment, closes none, and is not too long
pub record IsSpoken (text : List ℕ) : Type 0 where
  pub no_comment : begins 40 text ≡ false
  pub no_paren : begins 41 text ≡ false
  pub short : length text ≤ WORD_LIMIT

module _ (source : List ℕ) where
  depth_stays : (before : List Word) (token : Word) → comment_depth source before ≡ 0 → begins 40 (word_text source token) ≡ false
      → comment_depth source (before ++ token ∷ []) ≡ 0
  unfolding comment_depth
  depth_stays before token none plain =
      rw (fold_push (λ (depth : ℕ) (token : Word). depth_after depth (word_text source token)) 0 before token, none, plain) refl

  -- all tokens are words
  all_words : (tokens before : List Word) → comment_depth source before ≡ 0 → AllByRecursion (λ token. IsSpoken (word_text source token)) tokens
      → collected (word_given source) before tokens ≡ tokens
  all_words [] before none spoken = refl
  all_words (token ∷ tokens) before none spoken =
      let plain = spoken.0.no_comment in
      let rest = all_words tokens (before ++ token ∷ []) (depth_stays before token none plain) spoken.1 in
      rw (none, plain, rest) refl

  -- and none has a fault
  all_sound : (tokens before : List Word) → comment_depth source before ≡ 0 → AllByRecursion (λ token. IsSpoken (word_text source token)) tokens
      → phase_fault (each (validated_token source) before tokens) ≡ None
  all_sound [] before none spoken = refl
  all_sound (token ∷ tokens) before none spoken =
      let short = le-ltb WORD_LIMIT (length (word_text source token)) spoken.0.short in
      let rest = all_sound tokens (before ++ token ∷ []) (depth_stays before token none spoken.0.no_comment) spoken.1 in
      rw (none, spoken.0.no_comment, spoken.0.no_paren, short) rest

all_mapped : {X Y : Type 0} (P : Y → Type 0) (f : X → Y) (xs : List X) → AllByRecursion P (map f xs) → AllByRecursion (λ x. P (f x)) xs
all_mapped P f [] all = tt
all_mapped P f (x ∷ xs) all = (all.0, all_mapped P f xs all.1)

all_texts : (chunks : List Chunk) → AllByRecursion (λ (c : Chunk). IsSpoken c.text) chunks
    → AllByRecursion IsSpoken (map (λ (c : Chunk). c.text) chunks)
all_texts [] all = tt
all_texts (chunk ∷ chunks) all = (all.0, all_texts chunks all.1)

spoken_tokens : (chunks : List Chunk) → AreChunks chunks → AllByRecursion (λ (c : Chunk). IsSpoken c.text) chunks
    → AllByRecursion (λ token. IsSpoken (word_text (text_of_chunks chunks) token)) (tokens_of (text_of_chunks chunks))
spoken_tokens chunks are spoken =
    all_mapped IsSpoken (word_text (text_of_chunks chunks)) (tokens_of (text_of_chunks chunks))
    (rw (texts_of_tokens chunks are) (all_texts chunks spoken))

-- the words of chunks are their tokens
pub words_are_tokens : (chunks : List Chunk) → AreChunks chunks → AllByRecursion (λ (c : Chunk). IsSpoken c.text) chunks
    → words_of (text_of_chunks chunks) ≡ tokens_of (text_of_chunks chunks)
unfolding words_of comment_depth
words_are_tokens chunks are spoken = all_words (text_of_chunks chunks) (tokens_of (text_of_chunks chunks)) [] refl (spoken_tokens chunks are spoken)

-- and have no fault
pub chunks_faultless : (chunks : List Chunk) → AreChunks chunks → AllByRecursion (λ (c : Chunk). IsSpoken c.text) chunks
    → length (text_of_chunks chunks) ≤ TEXT_LIMIT → word_fault (text_of_chunks chunks) ≡ None
unfolding word_fault comment_depth
chunks_faultless chunks are spoken short =
    rw (le-ltb TEXT_LIMIT (length (text_of_chunks chunks)) short)
    (all_sound (text_of_chunks chunks) (tokens_of (text_of_chunks chunks)) [] refl (spoken_tokens chunks are spoken))
