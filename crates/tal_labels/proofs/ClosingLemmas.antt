use Rattle.tal_labels.proofs.Common.{◌≡◌, ℕ, zero, suc, ◌+◌, ◌<◌, Bool, true, false, List, [], ◌∷◌, length, take, drop, get_or, map, slice_get}
use Rattle.tal_labels.proofs.Common.{Option, Some, None, cond, ◌&&◌, refl, ◌∙◌, arith, add-one, ◌==◌, option_map, drop_more, ne_eqb, eq-eqb, Expanded}
use Rattle.tal_labels.proofs.Common.{opens, closes, matching_after, one_if, each, expanded_text, closer_of, waiting_step, each-step}
use Rattle.std.proofs.Common.{length-take}
use Rattle.tal_words.proofs.BraceLemmas.{opens-closes}

-- what waits from a word on, where the first word has this index
abbrev pub waiting_from : List ℕ → ℕ → List Expanded → List ℕ
waiting_from source at [] = []
waiting_from source at (word ∷ words) = waiting_step at (opens (expanded_text source word)) (closes (expanded_text source word)) (waiting_from source (at + 1) words)

shift : (at : ℕ) (o : Option ℕ) → option_map (λ n. at + n) (option_map suc o) ≡ option_map (λ n. at + 1 + n) o
shift at o = grind arith

get-drop : (rest : List ℕ) (d : ℕ) → slice_get rest (d + 1) ≡ slice_get (drop 1 rest) d
get-drop [] d = refl
get-drop (first ∷ rest) d = rw add-one refl

-- one step of the search for the matching `}`
step : (at d c : ℕ) (opening closing : Bool) (rest : List ℕ) (o : ℕ → ℕ → Option ℕ)
    → (opening ≡ true → closing ≡ false)
    → ((d c : ℕ) → option_map (λ n. at + 1 + n) (o (c + d) c) ≡ slice_get rest d)
    → option_map (λ n. at + n) (cond (closing && ((c + d) == c)) (Some 0) (option_map suc (o (c + d + one_if opening) (c + one_if closing)))) ≡ slice_get (waiting_step at opening closing rest) d
step at d c true true rest o apart h = (let never : true ≡ false = apart refl in cc)
step at d c true false rest o apart h = grind (arith, shift at (o (c + d + 1) (c + 0)), h (d + 1) c, get-drop rest d)
step at zero c false true rest o apart h = grind (arith, eq-eqb c c refl)
step at (suc d) c false true rest o apart h = grind (arith, ne_eqb (c + suc d) c (λ same. omega arith), shift at (o (c + 1 + d) (c + 1)), h d (c + 1))
step at d c false false rest o apart h = grind (arith, shift at (o (c + d) c), h d c)

-- the matching `}` of an opener with d more open is what waits at d
pub matching-waiting : (source : List ℕ) (at : ℕ) (words : List Expanded) (d c : ℕ) → option_map (λ n. at + n) (matching_after (c + d) c (map (expanded_text source) words)) ≡ slice_get (waiting_from source at words) d
matching-waiting source at [] d c = refl
matching-waiting source at (word ∷ words) d c =
    step at d c (opens (expanded_text source word)) (closes (expanded_text source word)) (waiting_from source (at + 1) words)
    (λ opened closed. matching_after opened closed (map (expanded_text source) words))
    (opens-closes (expanded_text source word)) (λ e f. matching-waiting source (at + 1) words e f)

-- what a word adds to what waits after it
pub waiting-step : (source : List ℕ) (words : List Expanded) (at : ℕ) (d : Expanded) → at < length words → waiting_from source at (drop at words) ≡ waiting_step at (opens (expanded_text source (get_or words at d))) (closes (expanded_text source (get_or words at d))) (waiting_from source (at + 1) (drop (at + 1) words))
waiting-step source words at d h = rw (drop_more words at d h) refl

-- the closer of a word is the first that waits after it
pub closer-step : (source : List ℕ) (words : List Expanded) (at : ℕ) (d : Expanded) → at < length words → each (closer_of source) (take at words) (drop at words) ≡ cond (opens (expanded_text source (get_or words at d))) (slice_get (waiting_from source (at + 1) (drop (at + 1) words)) 0) None ∷ each (closer_of source) (take (at + 1) words) (drop (at + 1) words)
closer-step source words at d h =
    let size : length (take at words) ≡ at = omega (arith, length-take at words) in
    each-step (closer_of source) words at d h ∙ rw (size, ← matching-waiting source (at + 1) (drop (at + 1) words) 0 0) refl
