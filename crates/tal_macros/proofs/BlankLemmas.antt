-- No word of an expanded list has a blank.
use Rattle.tal_macros.proofs.Common.{ℕ, zero, suc, List, [], ◌∷◌, ◌++◌, take, arith, unwrap_or, flat_map, AllByRecursion, Word, Expanded, bytes_at}
use Rattle.tal_macros.proofs.Common.{word_text, expanded_text, words_of, collected, IsBlankFree, MACRO_DEPTH, Macro, Part, Plain, Head, Inside}
use Rattle.tal_macros.proofs.Common.{Visited, body_named, body_defined, part_of, parts_from, head_length, macro_given, known_at, visits, visits_given}
use Rattle.tal_macros.proofs.Common.{visit_list, without_uses, parts_of, expanded_of}
use Rattle.tal_words.proofs.BlankFree.{all_joined, words_free}

-- what holds of what each of some things gives
all_flat : {X Y : Type 0} (P : X → Type 0) (Q : Y → Type 0) (f : X → List Y) → ((x : X) → P x → AllByRecursion Q (f x)) → (xs : List X)
    → AllByRecursion P xs → AllByRecursion Q (flat_map f xs)
all_flat P Q f each [] all = tt
all_flat P Q f each (x ∷ xs) all = all_joined Q (f x) (flat_map f xs) (each x all.0) (all_flat P Q f each xs all.1)

all_taken : {X : Type 0} (P : X → Type 0) (n : ℕ) (xs : List X) → AllByRecursion P xs → AllByRecursion P (take n xs)
all_taken P zero xs all = tt
all_taken P (suc n) [] all = tt
all_taken P (suc n) (x ∷ xs) all = (all.0, all_taken P n xs all.1)

module _ (source : List ℕ) where
  abbrev IsFreeWord : Word → Type 0
  IsFreeWord word = IsBlankFree (word_text source word)

  abbrev IsFreePart : Part → Type 0
  IsFreePart (Plain word) = IsFreeWord word
  IsFreePart (Head word body) = AllByRecursion IsFreeWord (unwrap_or body [])
  IsFreePart (Inside word) = Unit {0}

  abbrev IsFreeMacro : Macro → Type 0
  IsFreeMacro macro = AllByRecursion IsFreeWord macro.body

  part_free : (word : Word) (words : List Word) → IsFreeWord word → AllByRecursion IsFreeWord words → IsFreePart (part_of source word (body_defined source word words))
  part_free word [] plain all = grind arith
  part_free word (brace ∷ words) plain all = grind (arith, all_taken IsFreeWord)

  parts_free : (inside : ℕ) (words : List Word) → AllByRecursion IsFreeWord words → AllByRecursion IsFreePart (parts_from source inside words)
  parts_free inside [] all = tt
  parts_free (suc inside) (word ∷ words) all = (tt, parts_free inside words all.1)
  parts_free zero (word ∷ words) all = (part_free word words all.0 all.1, parts_free (head_length (body_defined source word words)) words all.1)

  named_free : (known : List Macro) (name : List ℕ) → AllByRecursion IsFreeMacro known → AllByRecursion IsFreeWord (unwrap_or (body_named known name) [])
  named_free [] name all = tt
  named_free (macro ∷ macros) name all = grind (arith, named_free macros name all.1)

  abbrev IsFreeVisit : Visited → Type 0
  IsFreeVisit word = IsBlankFree (bytes_at source word.text)

  visits_free : (known : List Macro) (origin : Word) (room : ℕ) → AllByRecursion IsFreeMacro known → (word : Word) → IsFreeWord word
      → AllByRecursion IsFreeVisit (visits source known origin room word)
  unfolding visits
  visits_free known origin zero all word plain = (plain, tt)
  visits_free known origin (suc room) all word plain =
      (plain, all_flat IsFreeWord IsFreeVisit _ (visits_free known origin room all) (unwrap_or (body_named known (word_text source word)) []) (named_free known (word_text source word) all))

  given_free : (before : List Part) (part : Part) (after : List Part) → AllByRecursion IsFreePart before → IsFreePart part → AllByRecursion IsFreeVisit (visits_given source before part after)
  unfolding known_at
  given_free before (Plain word) after all plain =
      let known = all_flat IsFreePart IsFreeMacro (macro_given source) (λ part plain. grind arith) before all in
      visits_free (known_at source before) word MACRO_DEPTH known word plain
  given_free before part after all plain = tt

  list_free : (before parts : List Part) → AllByRecursion IsFreePart before → AllByRecursion IsFreePart parts → AllByRecursion IsFreeVisit (collected (visits_given source) before parts)
  list_free before [] earlier all = tt
  list_free before (part ∷ parts) earlier all =
      all_joined IsFreeVisit (visits_given source before part parts) (collected (visits_given source) (before ++ part ∷ []) parts) (given_free before part parts earlier all.0)
      (list_free (before ++ part ∷ []) parts (all_joined IsFreePart before (part ∷ []) earlier (all.0, tt)) all.1)

  abbrev IsFreeExpanded : Expanded → Type 0
  IsFreeExpanded word = IsBlankFree (expanded_text source word)

  kept_free : (visited : List Visited) → AllByRecursion IsFreeVisit visited → AllByRecursion IsFreeExpanded (without_uses visited)
  kept_free [] all = tt
  kept_free (word ∷ words) all = grind (arith, kept_free words all.1)

  pub expanded_free : AllByRecursion IsFreeExpanded (expanded_of source)
  unfolding expanded_of visit_list parts_of
  expanded_free =
      let words = words_of source in
      kept_free (collected (visits_given source) [] (parts_from source 0 words)) (list_free [] (parts_from source 0 words) tt (parts_free 0 words (words_free source)))
