-- The tokens of a text of which each has one blank behind it.
use Rattle.std.proofs.Common.{◌≡◌, ℕ, zero, suc, ◌+◌, ◌-◌, ◌<◌, Bool, true, false, not, List, [], ◌∷◌, ◌++◌, length, drop, get_or, map, refl, ap, sym}
use Rattle.std.proofs.Common.{◌∙◌, arith, append_assoc, append-nil, length-append}
use Rattle.std.specs.List.{flat_map, list_any, prefix_len, AllByRecursion}
use Rattle.std.proofs.lemmas.Bool.{or_parts}
use Rattle.std.proofs.lemmas.List.{get_or-append-add, get_or_append_left, get_or_at, take_at, drop_at, map-append}
use Rattle.tal_words.specs.declared.span.Word.{Word}
use Rattle.tal_words.specs.PlainTexts.{Chunk, chunk_text}
use Rattle.tal_words.proofs.Tokens.{tokens_more}
use Rattle.tal_words.specs.Source.{is_blank, word_text, run_length, is_after_blank, token_at, tokens_below, tokens_of}

abbrev pub text_of_chunks : List Chunk → List ℕ
text_of_chunks chunks = flat_map chunk_text chunks

-- a token is not empty and has no blank
pub record IsChunk (chunk : Chunk) : Type 0 where
  pub some : 0 < length chunk.text
  pub plain : list_any is_blank chunk.text ≡ false
  pub parted : is_blank chunk.blank ≡ true

abbrev pub AreChunks : List Chunk → Type 0
AreChunks chunks = AllByRecursion IsChunk chunks

-- what is read of each chunk and its place, if the first stands here
abbrev pub read_along : {A : Type 0} → (ℕ → Chunk → A) → ℕ → List Chunk → List A
read_along read at [] = []
read_along read at (chunk ∷ chunks) = read at chunk ∷ read_along read (at + length chunk.text + 1) chunks

any_none : (p : ℕ → Bool) (xs : List ℕ) (j : ℕ) → list_any p xs ≡ false → j < length xs → p (get_or xs j 0) ≡ false
any_none p [] j none within = absurd (omega arith)
any_none p (x ∷ xs) zero none within = (or_parts (p x) (list_any p xs) none).0
any_none p (x ∷ xs) (suc j) none within = any_none p xs j (or_parts (p x) (list_any p xs) none).1 (omega arith)

-- the bytes up to the first blank
run_of : (word : List ℕ) (blank : ℕ) (rest : List ℕ) → list_any is_blank word ≡ false → is_blank blank ≡ true
    → prefix_len (λ byte. not (is_blank byte)) ((word ++ blank ∷ []) ++ rest) ≡ length word
run_of [] blank rest plain parted = rw parted refl
run_of (byte ∷ word) blank rest plain parted =
    let parts = or_parts (is_blank byte) (list_any is_blank word) plain in
    let here = parts.0 in
    let more = run_of word blank rest parts.1 parted in
    rw (here, more) (omega arith)

after_blank-suc : (source : List ℕ) (at : ℕ) → 0 < at → is_after_blank source at ≡ is_blank (get_or source (at - 1) 0)
after_blank-suc source zero some = absurd (omega arith)
after_blank-suc source (suc before) some = let one : suc before - 1 ≡ before = omega arith in rw one refl

module _ (source : List ℕ) where
  -- no token begins behind a byte that is no blank
  none_begins : (at : ℕ) → 0 < at → is_blank (get_or source (at - 1) 0) ≡ false → tokens_below source (at + 1) ≡ tokens_below source at
  none_begins at some plain =
      let within : is_after_blank source at ≡ false = after_blank-suc source at some ∙ plain in
      rw (tokens_more source at, within, append-nil) refl

  none_within : (n p : ℕ) → ((j : ℕ) → j < n → is_blank (get_or source (p + j) 0) ≡ false)
      → tokens_below source (p + n + 1) ≡ tokens_below source (p + 1)
  none_within zero p plain = let same : p + 0 + 1 ≡ p + 1 = omega arith in ap (tokens_below source) same
  none_within (suc n) p plain =
      let before : p + suc n - 1 ≡ p + n = omega arith in
      let last : is_blank (get_or source (p + suc n - 1) 0) ≡ false = ap (λ (k : ℕ). is_blank (get_or source k 0)) before ∙ plain n (omega arith) in
      let same : p + suc n ≡ p + n + 1 = omega arith in
      none_begins (p + suc n) (omega arith) last ∙ ap (tokens_below source) same ∙ none_within n p (λ j h. plain j (omega arith))

  module _ (prefix : List ℕ) (chunk : Chunk) (rest : List ℕ) (is : IsChunk chunk) (split : source ≡ prefix ++ (chunk_text chunk ++ rest)) where
    p : ℕ
    p = length prefix

    read_word : (j : ℕ) → j < length chunk.text → get_or source (length prefix + j) 0 ≡ get_or chunk.text j 0
    read_word j within =
        let here = length-append chunk.text (chunk.blank ∷ []) in
        rw (split, get_or-append-add prefix (chunk_text chunk ++ rest) j 0)
        (get_or_append_left (chunk_text chunk) rest 0 j (omega (arith, here)) ∙ get_or_append_left chunk.text (chunk.blank ∷ []) 0 j within)

    read_blank : get_or source (length prefix + length chunk.text) 0 ≡ chunk.blank
    read_blank =
        rw (split, get_or-append-add prefix (chunk_text chunk ++ rest) (length chunk.text) 0, append_assoc chunk.text (chunk.blank ∷ []) rest)
        (get_or_at chunk.text chunk.blank rest 0 (length chunk.text) refl)

    plain_at : (j : ℕ) → j < length chunk.text → is_blank (get_or source (length prefix + j) 0) ≡ false
    plain_at j within = ap is_blank (read_word j within) ∙ any_none is_blank chunk.text j is.plain within

    -- the token of the chunk comes next
    next_token : is_after_blank source (length prefix) ≡ true
        → tokens_below source (length prefix + length chunk.text + 1) ≡ tokens_below source (length prefix) ++ token_at source (length prefix) ∷ []
    next_token after =
        let first : length prefix + 0 ≡ length prefix = omega arith in
        let here : is_blank (get_or source (length prefix) 0) ≡ false = ap (λ (k : ℕ). is_blank (get_or source k 0)) (sym first)
        ∙ plain_at 0 is.some in
        none_within (length chunk.text) (length prefix) plain_at ∙ tokens_more source (length prefix) ∙ rw (after, here) refl

    -- and a blank stands behind it
    behind_token : is_after_blank source (length prefix + length chunk.text + 1) ≡ true
    behind_token =
        let before : length prefix + length chunk.text + 1 - 1 ≡ length prefix + length chunk.text = omega arith in
        rw (after_blank-suc source (length prefix + length chunk.text + 1) (omega arith), before, read_blank) is.parted

    -- its text is that of the chunk
    token_text : word_text source (token_at source (length prefix)) ≡ chunk.text
    unfolding token_at
    token_text =
        let dropped : drop (length prefix) source ≡ chunk_text chunk ++ rest = ap (drop (length prefix)) split
        ∙ drop_at prefix (chunk_text chunk ++ rest) (length prefix) refl in
        let run : run_length source (length prefix) ≡ length chunk.text = ap (prefix_len (λ byte. not (is_blank byte))) dropped
        ∙ run_of chunk.text chunk.blank rest is.plain is.parted in
        let size : length prefix + run_length source (length prefix) - length prefix ≡ length chunk.text = omega (arith, run) in
        rw (size, dropped, append_assoc chunk.text (chunk.blank ∷ []) rest) (take_at chunk.text ((chunk.blank ∷ []) ++ rest) (length chunk.text) refl)

  -- what is read of the tokens from a place on
  module _ {A : Type 0} (f : Word → A) (read : ℕ → Chunk → A)
      (reads : (prefix : List ℕ) (chunk : Chunk) (rest : List ℕ) → IsChunk chunk → source ≡ prefix ++ (chunk_text chunk ++ rest)
      → f (token_at source (length prefix)) ≡ read (length prefix) chunk) where
    read_from : (chunks : List Chunk) (prefix : List ℕ) → AreChunks chunks → source ≡ prefix ++ text_of_chunks chunks
        → is_after_blank source (length prefix) ≡ true
        → map f (tokens_below source (length source)) ≡ map f (tokens_below source (length prefix)) ++ read_along read (length prefix) chunks
    read_from [] prefix are split after =
        rw (ap length (split ∙ append-nil prefix), append-nil) refl
    read_from (chunk ∷ chunks) prefix are split after =
        let rest = text_of_chunks chunks in
        let next = length prefix + length chunk.text + 1 in
        let size : length (prefix ++ chunk_text chunk) ≡ next = omega
        (arith, length-append prefix (chunk_text chunk), length-append chunk.text (chunk.blank ∷ [])) in
        let again : source ≡ (prefix ++ chunk_text chunk) ++ rest = split ∙ sym (append_assoc prefix (chunk_text chunk) rest) in
        let later : is_after_blank source (length (prefix ++ chunk_text chunk)) ≡ true = ap (is_after_blank source) size
        ∙ behind_token prefix chunk rest are.0 split in
        let one = map-append f (tokens_below source (length prefix)) (token_at source (length prefix) ∷ []) in
        rw (read_from chunks (prefix ++ chunk_text chunk) are.1 again later, size, next_token prefix chunk rest are.0 split after)
        (rw (one, reads prefix chunk rest are.0 split, append_assoc) refl)

-- what is read of the tokens of chunks
pub read_of_tokens : {A : Type 0} (chunks : List Chunk) (f : Word → A) (read : ℕ → Chunk → A)
    → ((prefix : List ℕ) (chunk : Chunk) (rest : List ℕ) → IsChunk chunk → text_of_chunks chunks ≡ prefix ++ (chunk_text chunk ++ rest)
    → f (token_at (text_of_chunks chunks) (length prefix)) ≡ read (length prefix) chunk)
    → AreChunks chunks → map f (tokens_of (text_of_chunks chunks)) ≡ read_along read 0 chunks
unfolding tokens_of tokens_below
read_of_tokens chunks f read reads are = read_from (text_of_chunks chunks) f read reads chunks [] are refl refl

texts_along : (chunks : List Chunk) (at : ℕ) → read_along (λ at chunk. chunk.text) at chunks ≡ map (λ chunk. chunk.text) chunks
texts_along [] at = refl
texts_along (chunk ∷ chunks) at = rw (texts_along chunks (at + length chunk.text + 1)) refl

-- the texts of the tokens of chunks
pub texts_of_tokens : (chunks : List Chunk) → AreChunks chunks
    → map (word_text (text_of_chunks chunks)) (tokens_of (text_of_chunks chunks)) ≡ map (λ chunk. chunk.text) chunks
texts_of_tokens chunks are =
    read_of_tokens chunks (word_text (text_of_chunks chunks)) (λ at chunk. chunk.text) (token_text (text_of_chunks chunks)) are ∙ texts_along chunks 0
