-- What the words of a source without a fault of words are.
use Rattle.std.proofs.Common.{◌≡◌, ℕ, ◌+◌, ◌<◌, Bool, true, false, not, List, [], ◌∷◌, ◌++◌, length, get_or, take, drop, refl, arith, Option, None}
use Rattle.std.specs.Prelude.{if◌then◌else◌, slice_get}
use Rattle.std.specs.List.{prefix_len, AllByRecursion}
use Rattle.std.proofs.lemmas.Grind.{common_steps}
use Rattle.std.proofs.lemmas.List.{drop_more}
use Rattle.std.specs.Option.{option_map, option_or}
use Rattle.tal_words.specs.declared.span.Word.{Word}
use Rattle.tal_words.specs.declared.fault.Fault.{Fault}
use Rattle.tal_words.specs.declared.fault.FaultKind.{FaultKind}
use Rattle.tal_words.specs.declared.fault.FaultKind.TheVariants.{OpenComment, LongWord, StrayParen}
use Rattle.tal_words.specs.Faults.{when, phase_fault, fault_at}
use Rattle.tal_words.specs.Order.{each, collected}
use Rattle.tal_words.specs.Comments.{is_word, validated_token, word_given, words_of, word_fault}
use Rattle.tal_words.specs.PlainTexts.{Chunk}
use Rattle.tal_words.specs.Source.{is_blank, word_text, begins_token, token_at, tokens_of}
use Rattle.tal_words.proofs.BlankFree.{all_joined, words_all, words_free}
use Rattle.tal_words.proofs.PlainTokens.{IsChunk}
use Rattle.tal_include.proofs.ChunkLemmas.{IsSpoken}

-- a word with a newline behind it
abbrev pub line_of : List ℕ → Chunk
line_of text = record { text = text; blank = 10 }

-- a word that can stand in a flat text
pub record IsSound (text : List ℕ) : Type 0 where
  pub chunk : IsChunk (line_of text)
  pub spoken : IsSpoken text

pub no_kinds : (kinds : List FaultKind) (word : Word) (later : Option Fault) → option_or (option_map (fault_at word) (slice_get kinds 0)) later ≡ None
    → (kinds ≡ []) × (later ≡ None)
no_kinds [] word later is = (refl, is)
no_kinds (kind ∷ kinds) word later is = cc is

no_when : (a b c : Bool) → (when a OpenComment ++ when b LongWord ++ when c StrayParen) ≡ [] → (b ≡ false) × (c ≡ false)
no_when a b c is = grind arith

module _ (source : List ℕ) where
  abbrev pub IsSpokenWord : Word → Type 0
  IsSpokenWord word = IsSpoken (word_text source word)

  abbrev pub IsLong : Word → Type 0
  IsLong word = 0 < length (word_text source word)

  given_spoken : (token : Word) (before after : List Word) (b : Bool) → is_word source before token ≡ b
      → (validated_token source before token after).kinds ≡ [] → AllByRecursion IsSpokenWord (if b then token ∷ [] else [])
  given_spoken token before after b is kinds = grind (arith, common_steps)

  given_all : (before tokens : List Word) → phase_fault (each (validated_token source) before tokens) ≡ None
      → AllByRecursion IsSpokenWord (collected (word_given source) before tokens)
  given_all before [] none = tt
  given_all before (token ∷ tokens) none =
      let parts = no_kinds (validated_token source before token tokens).kinds token
      (phase_fault (each (validated_token source) (before ++ token ∷ []) tokens)) none in
      all_joined IsSpokenWord (word_given source before token tokens) (collected (word_given source) (before ++ token ∷ []) tokens)
      (given_spoken token before tokens (is_word source before token) refl parts.0)
      (given_all (before ++ token ∷ []) tokens parts.1)

  long_cons : (byte : ℕ) (bytes : List ℕ) → is_blank byte ≡ false
      → 0 < length (take (prefix_len (λ b. not (is_blank b)) (byte ∷ bytes)) (byte ∷ bytes))
  long_cons byte bytes plain = grind (arith, common_steps, plain)

  token_long : (at : ℕ) → at < length source → begins_token source at ≡ true → IsLong (token_at source at)
  unfolding token_at
  token_long at within begins_here =
      grind (arith, common_steps, drop_more source at 0 within, long_cons (get_or source at 0) (drop (at + 1) source))

  words_long : AllByRecursion IsLong (words_of source)
  words_long = words_all (λ text. 0 < length text) source token_long

  words_spoken : word_fault source ≡ None → AllByRecursion IsSpokenWord (words_of source)
  unfolding words_of word_fault
  words_spoken none = given_all [] (tokens_of source) (grind arith)

  abbrev pub IsSoundWord : Word → Type 0
  IsSoundWord word = IsSound (word_text source word)

  together : (words : List Word) → AllByRecursion IsSpokenWord words → AllByRecursion IsLong words
      → AllByRecursion (λ word. Rattle.tal_words.specs.PlainTexts.IsBlankFree (word_text source word)) words → AllByRecursion IsSoundWord words
  together [] spoken long free = tt
  together (word ∷ words) spoken long free = (
    record { chunk = record { some = long.0; plain = free.0; parted = refl }; spoken = spoken.0 },
    together words spoken.1 long.1 free.1,
  )

  -- each word of a source without a fault can stand in a flat text
  pub words_sound : word_fault source ≡ None → AllByRecursion IsSoundWord (words_of source)
  words_sound none = together (words_of source) (words_spoken none) words_long (words_free source)
