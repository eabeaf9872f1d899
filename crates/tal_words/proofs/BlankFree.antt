-- No word of a source has a blank in it.
use Rattle.std.proofs.Common.{◌≡◌, ℕ, zero, suc, ◌+◌, ◌-◌, ◌<◌, ◌≤◌, Bool, true, false, not, List, [], ◌∷◌, ◌++◌, length, take, drop, inl, inr, refl}
use Rattle.std.proofs.Common.{arith}
use Rattle.std.specs.Prelude.{if◌then◌else◌}
use Rattle.std.specs.List.{prefix_len, AllByRecursion}
use Rattle.std.proofs.lemmas.Bool.{cases_Bool}
use Rattle.tal_words.specs.declared.span.Word.{Word}
use Rattle.tal_words.specs.Source.{is_blank, word_text, run_length, begins_token, token_at, tokens_below, tokens_of}
use Rattle.tal_words.specs.Comments.{is_word, word_given, words_of}
use Rattle.tal_words.specs.Order.{collected}
use Rattle.tal_words.specs.PlainTexts.{IsBlankFree}

-- what holds of each of two lists
pub all_joined : {Y : Type 0} (P : Y → Type 0) (ys zs : List Y) → AllByRecursion P ys → AllByRecursion P zs → AllByRecursion P (ys ++ zs)
all_joined P [] zs all more = more
all_joined P (y ∷ ys) zs all more = (all.0, all_joined P ys zs all.1 more)

-- the bytes up to a blank have none
run_free : (bytes : List ℕ) → IsBlankFree (take (prefix_len (λ byte. not (is_blank byte)) bytes) bytes)
run_free [] = refl
run_free (byte ∷ bytes) = elim (cases_Bool (is_blank byte)) [
  | inl blank ↦ rw blank refl
  | inr plain ↦
      let one : 1 + prefix_len (λ b. not (is_blank b)) bytes ≡ suc (prefix_len (λ b. not (is_blank b)) bytes) = omega arith in
      let rest = run_free bytes in
      rw (plain, one, plain) rest
]

-- what holds of the text of each token holds of that of each word
module _ (P : List ℕ → Type 0) (source : List ℕ) (token_is : (at : ℕ) → at < length source → begins_token source at ≡ true → P (word_text source (token_at source at))) where
  abbrev pub IsSuch : Word → Type 0
  IsSuch word = P (word_text source word)

  tokens_all : (at : ℕ) → at ≤ length source → AllByRecursion IsSuch (tokens_below source at)
  unfolding tokens_below
  tokens_all zero within = tt
  tokens_all (suc at) within =
      all_joined IsSuch (tokens_below source at) (if begins_token source at then token_at source at ∷ [] else []) (tokens_all at (omega (arith, within)))
      (by (begins_token source at) refl)
    where
      by : (b : Bool) → begins_token source at ≡ b → AllByRecursion IsSuch (if b then token_at source at ∷ [] else [])
      by true is = (token_is at (omega (arith, within)) is, tt)
      by false is = tt

  given_all : (before tokens : List Word) → AllByRecursion IsSuch tokens → AllByRecursion IsSuch (collected (word_given source) before tokens)
  given_all before [] all = tt
  given_all before (token ∷ tokens) all =
      all_joined IsSuch (word_given source before token tokens) (collected (word_given source) (before ++ token ∷ []) tokens)
      (by (is_word source before token) all.0) (given_all (before ++ token ∷ []) tokens all.1)
    where
      by : (b : Bool) → IsSuch token → AllByRecursion IsSuch (if b then token ∷ [] else [])
      by true one = (one, tt)
      by false one = tt

  pub words_all : AllByRecursion IsSuch (words_of source)
  unfolding words_of tokens_of
  words_all = given_all [] (tokens_below source (length source)) (tokens_all (length source) (omega arith))

token_free : (source : List ℕ) (at : ℕ) → IsBlankFree (word_text source (token_at source at))
unfolding token_at
token_free source at =
    let size : at + run_length source at - at ≡ run_length source at = omega arith in
    rw size (run_free (drop at source))

pub words_free : (source : List ℕ) → AllByRecursion (λ word. IsBlankFree (word_text source word)) (words_of source)
words_free source = words_all IsBlankFree source (λ at within begins. token_free source at)
