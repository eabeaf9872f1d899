use Rattle.std.proofs.Common.{◌≡◌, ℕ, zero, suc, ◌+◌, ◌<◌, ◌≤◌, List, [], ◌∷◌, ◌++◌, length, take, drop, get_or, Option, refl, sym, ap, arith}
use Rattle.std.proofs.Common.{append_assoc, append-nil, ◌⊎◌, inl, inr}
use Rattle.std.proofs.lemmas.List.{take_more, drop_more, drop_all}
use Rattle.std.specs.List.{AllByRecursion}
use Rattle.std.specs.Option.{option_or}
use Rattle.tal_words.specs.declared.span.Expanded.{Expanded}
use Rattle.tal_words.specs.Order.{collected, each, last_of}

module _ {X Y : Type 0} (give : List X → X → List X → Y) where
  -- what the words from k on give begins with what word k gives
  pub each-step : (words : List X) (k : ℕ) (d : X) → k < length words
      → each give (take k words) (drop k words)
      ≡ give (take k words) (get_or words k d) (drop (k + 1) words) ∷ each give (take (k + 1) words) (drop (k + 1) words)
  each-step words k d h = rw (drop_more words k d h, take_more words k d h) refl

  -- after the last word nothing is left
  pub each-end : (words : List X) (k : ℕ) → length words ≤ k → each give (take k words) (drop k words) ≡ []
  each-end words k h = ap (each give (take k words)) (drop_all k words h)

  pub length-each : (before words : List X) → length (each give before words) ≡ length words
  length-each before [] = refl
  length-each before (word ∷ after) = ap suc (length-each (before ++ word ∷ []) after)

  -- what the word at an index gives
  pub get_or-each : (before words : List X) (k : ℕ) (d : X) (e : Y) → k < length words
      → get_or (each give before words) k e ≡ give (before ++ take k words) (get_or words k d) (drop (k + 1) words)
  get_or-each before [] k d e h = absurd (omega arith)
  get_or-each before (word ∷ after) zero d e h = ap (λ b. give b word after) (sym (append-nil before))
  get_or-each before (word ∷ after) (suc k) d e h =
      let next : suc k + 1 ≡ suc (k + 1) = omega arith in
      rw (get_or-each (before ++ word ∷ []) after k d e (omega arith), append_assoc before (word ∷ []) (take k after), next) refl

  -- one more word at the end, where what a word gives does not depend on those after it
  pub each-more : ((b : List X) (w : X) (a c : List X) → give b w a ≡ give b w c) → (before words : List X) (last : X)
      → each give before (words ++ last ∷ []) ≡ each give before words ++ give (before ++ words) last [] ∷ []
  each-more alone before [] last = rw append-nil refl
  each-more alone before (word ∷ words) last =
      rw (alone before word (words ++ last ∷ []) words, each-more alone (before ++ word ∷ []) words last, append_assoc before (word ∷ []) words) refl

module _ {X Y : Type 0} (give : List X → X → List X → List Y) where
  -- what the words from k on give begins with what word k gives
  pub collected-step : (words : List X) (k : ℕ) (d : X) → k < length words
      → collected give (take k words) (drop k words)
      ≡ give (take k words) (get_or words k d) (drop (k + 1) words) ++ collected give (take (k + 1) words) (drop (k + 1) words)
  collected-step words k d h = rw (drop_more words k d h, take_more words k d h) refl

  pub collected-end : (words : List X) (k : ℕ) → length words ≤ k → collected give (take k words) (drop k words) ≡ []
  collected-end words k h = ap (collected give (take k words)) (drop_all k words h)

  -- what words give that follow others, where what a word gives does not depend on those after it
  pub collected-append : ((b : List X) (w : X) (a c : List X) → give b w a ≡ give b w c) → (before words more : List X)
      → collected give before (words ++ more) ≡ collected give before words ++ collected give (before ++ words) more
  collected-append alone before [] more = rw append-nil refl
  collected-append alone before (word ∷ words) more =
      rw (alone before word (words ++ more) words, collected-append alone (before ++ word ∷ []) words more, append_assoc before (word ∷ []) words, append_assoc)
      refl

  pub collected-more : ((b : List X) (w : X) (a c : List X) → give b w a ≡ give b w c) → (before words : List X) (last : X)
      → collected give before (words ++ last ∷ []) ≡ collected give before words ++ give (before ++ words) last []
  collected-more alone before words last = rw (collected-append alone before words (last ∷ []), append-nil) refl

module _ {X Y : Type 0} (find : X → Option Y) where
  pub last_of-more : (items : List X) (last : X) → last_of find (items ++ last ∷ []) ≡ option_or (find last) (last_of find items)
  last_of-more [] last = grind arith
  last_of-more (item ∷ items) last = grind (arith, last_of-more items last)

-- a list by its last item
pub by_last : (xs : List ℕ) → (xs ≡ []) ⊎ ((front : List ℕ) × (last : ℕ) × (xs ≡ front ++ last ∷ []))
by_last [] = inl refl
by_last (x ∷ xs) = elim (by_last xs) [
  | inl none ↦ inr ([], x, rw none refl)
  | inr some ↦ inr (x ∷ some.0, some.1, rw some.2 refl)
]

pub both_nil : {X : Type 0} (a b : List X) → a ++ b ≡ [] → (a ≡ []) × (b ≡ [])
both_nil [] b e = (refl, e)
both_nil (x ∷ a) b e = cc

pub last_of_all : (P : ℕ → Type 0) (front : List ℕ) (last : ℕ) → AllByRecursion P (front ++ last ∷ []) → P last
last_of_all P [] last all = all.0
last_of_all P (x ∷ front) last all = last_of_all P front last all.1

-- what a read past the end gives
abbrev pub no_word : Expanded
no_word = record { text = record { start = 0; end = 0 }; origin = record { span = record { start = 0; end = 0 }; line = 0; column = 0 } }
