-- What an Expander has given, one word further on and at the end.
use Rattle.tal_macros.proofs.Common.{◌≡◌, ℕ, ◌+◌, ◌≤◌, List, [], ◌∷◌, ◌++◌, length, take, drop, Some, None, refl, ap, sym, ◌∙◌, arith, append-nil}
use Rattle.tal_macros.proofs.Common.{add-one, not, common_steps, map-append, length-map, length-take, take-append-drop, drop-drop, Expanded, Visited}
use Rattle.tal_macros.proofs.Common.{without_uses, expanded_of, expansion_fault, Progress, given, words_left, next_word, count_to_next, advanced}
use Rattle.tal_macros.proofs.Common.{visits_before_fault}
use Rattle.std.proofs.lemmas.List.Elements.{filter-append}
use Rattle.std.proofs.lemmas.List.Sums.{length-filter, count_by-le-length}
use Rattle.std.proofs.Math.Seq.{take-add}
use Rattle.tal_macros.proofs.StepLemmas.{visits_before_fault-all}

without_uses-append : (xs ys : List Visited) → without_uses (xs ++ ys) ≡ without_uses xs ++ without_uses ys
without_uses-append xs ys = rw filter-append (rw map-append refl)

take-next : (count : ℕ) (first : Visited) (words : List Visited) → take (count + 1) (first ∷ words) ≡ first ∷ take count words
take-next count first words = rw add-one refl

-- the first word that is no use, and those up to it
next-first : (words : List Visited) (word : Expanded) → next_word words ≡ Some word → without_uses (take (count_to_next words) words) ≡ word ∷ []
next-first [] word e = cc
next-first (first ∷ words) word e = grind (arith, take-next, next-first words word)

next-none : (words : List Visited) → next_word words ≡ None → without_uses words ≡ []
next-none [] e = refl
next-none (first ∷ words) e = grind (arith, next-none words)

-- one word more
pub given-more : (progress : Progress) (word : Expanded) → next_word (words_left progress) ≡ Some word → given (advanced progress) ≡ given progress ++ word ∷ []
given-more progress word next =
    rw (take-add progress.visited (count_to_next (words_left progress)) (visits_before_fault progress.source))
    (rw (without_uses-append, next-first (words_left progress) word next) refl)

-- all words before a fault
pub given-all : (progress : Progress) → next_word (words_left progress) ≡ None → given progress ≡ without_uses (visits_before_fault progress.source)
given-all progress none =
    let all = visits_before_fault progress.source in
    sym (append-nil (given progress)) ∙ ap (λ words. given progress ++ words) (sym (next-none (words_left progress) none))
    ∙ sym (without_uses-append (take progress.visited all) (words_left progress)) ∙ ap without_uses (take-append-drop progress.visited all)

-- all words of the expanded list
pub given-whole : (progress : Progress) → next_word (words_left progress) ≡ None → expansion_fault progress.source ≡ None → given progress ≡ expanded_of progress.source
unfolding expanded_of
given-whole progress none faultless = given-all progress none ∙ ap without_uses (visits_before_fault-all progress.source faultless)

-- the words given so far are a prefix of the expanded list
pub given-prefix : (progress : Progress) → expansion_fault progress.source ≡ None
    → expanded_of progress.source ≡ given progress ++ without_uses (words_left progress)
unfolding expanded_of
given-prefix progress none =
    let split = without_uses-append (take progress.visited (visits_before_fault progress.source)) (words_left progress) in
    rw (← visits_before_fault-all progress.source none) (rw take-append-drop at split)

pub given-few : (progress : Progress) → length (given progress) ≤ progress.visited
given-few progress =
    let all = take progress.visited (visits_before_fault progress.source) in
    omega (arith, length-map {A = Visited} {B = Expanded}, length-filter (λ (word : Visited). not word.is_use) all, count_by-le-length (λ (word : Visited). not word.is_use) all, length-take {A = Visited})

-- a word that is given is visited
pub next-visited : (words : List Visited) (word : Expanded) → next_word words ≡ Some word → 1 ≤ count_to_next words
next-visited [] word e = cc
next-visited (first ∷ words) word e = grind arith

-- behind the last word none is left
next-again : (words : List Visited) → next_word words ≡ None → next_word (drop (count_to_next words) words) ≡ None
next-again [] e = refl
next-again (first ∷ words) e = grind (arith, common_steps, next-again words)

pub left-again : (progress : Progress) → next_word (words_left progress) ≡ None → next_word (words_left (advanced progress)) ≡ None
left-again progress none = rw (← drop-drop (count_to_next (words_left progress)) progress.visited (visits_before_fault progress.source)) (next-again (words_left progress) none)
