-- Which openers are open after some words, what one word more closes, and whether an opener has it as its matching brace.
use Rattle.tal_labels.proofs.Common.{◌≡◌, ℕ, suc, get_or, ◌+◌, ◌-◌, ◌<◌, Bool, true, false, not, List, [], ◌∷◌, ◌++◌, length, take, map, slice_get}
use Rattle.tal_labels.proofs.Common.{Option, Some, None, Ok, cond, ◌&&◌, ◌||◌, ◌⊎◌, inl, inr, refl, sym, ◌∙◌, ap, arith, append_assoc, append-nil}
use Rattle.tal_labels.proofs.Common.{length-append, ◌==◌, is_some, fold, option_map, list_any, nat_tests, ne_eqb, eq-eqb, map-append, length-map}
use Rattle.tal_labels.proofs.Common.{take-append-le, take-append_seam, Expanded, Form, form, size, opens, closes, matching_after, one_if, collected}
use Rattle.tal_labels.proofs.Common.{each, expanded_text, PlacedWord, address_after, closing_distance, open_after, open_count, is_at, closes_one_of}
use Rattle.tal_labels.proofs.Common.{waiting_step, lambda_address, placed_given, open_word, open_given, open_ones, closed_at, no_word}
use Rattle.tal_labels.proofs.IndexLemmas.{none_since}
use Rattle.tal_labels.proofs.ClosingLemmas.{waiting_from, matching-waiting}
use Rattle.tal_words.proofs.BraceLemmas.{opens-closes}

-- how many of some texts open a brace, and how many close one
abbrev pub openings : List (List ℕ) → ℕ
openings [] = 0
openings (text ∷ texts) = one_if (opens text) + openings texts

abbrev pub closings : List (List ℕ) → ℕ
closings [] = 0
closings (text ∷ texts) = one_if (closes text) + closings texts

-- what is found, or else what one text more closes
abbrev pub found_or : Option ℕ → Bool → ℕ → Option ℕ
found_or (Some n) closing at = Some n
found_or None true at = Some at
found_or None false at = None

found_or-step : (here : Bool) (later : Option ℕ) (test : Bool) (at : ℕ)
    → cond here (Some 0) (option_map suc (found_or later test at)) ≡ found_or (cond here (Some 0) (option_map suc later)) test (suc at)
found_or-step here later test at = grind arith

matching-more : (o c : ℕ) (texts : List (List ℕ)) (text : List ℕ)
    → matching_after o c (texts ++ text ∷ []) ≡ found_or (matching_after o c texts) (closes text && ((o + openings texts) == (c + closings texts))) (length texts)
matching-more o c [] text =
    let a : o + 0 ≡ o = omega arith in
    let b : c + 0 ≡ c = omega arith in
    rw (a, b) (grind arith)
matching-more o c (first ∷ texts) text =
    let a : o + one_if (opens first) + openings texts ≡ o + (one_if (opens first) + openings texts) = omega arith in
    let b : c + one_if (closes first) + closings texts ≡ c + (one_if (closes first) + closings texts) = omega arith in
    rw (matching-more (o + one_if (opens first)) (c + one_if (closes first)) texts text, a, b) (found_or-step (closes first && (o == c)) _ _ (length texts))

-- the matching `}` is one of the texts
matching-within : (o c : ℕ) (texts : List (List ℕ)) (n : ℕ) → matching_after o c texts ≡ Some n → n < length texts
matching-within o c [] n e = cc
matching-within o c (text ∷ texts) n e = grind (arith, matching-within (o + one_if (opens text)) (c + one_if (closes text)) texts)

-- an opener is closed by what waits next, or it stays open; a `}` waits
module _ (opening closing found : Bool) (waiting : List ℕ) (at first : ℕ) (more : List ℕ) (apart : opening ≡ true → closing ≡ false) (e : found ≡ is_some (slice_get waiting 0)) where
  balance-step : (o c : ℕ) → o + length waiting ≡ c + length more
      → one_if opening + o + length (waiting_step at opening closing waiting) ≡ one_if closing + c + length (cond (opening && not found) (first ∷ []) [] ++ more)
  balance-step o c h = grind arith

  count-step : (depth : ℕ) (count : ℕ → ℕ) → ((n : ℕ) → count n ≡ n - length waiting + length more)
      → count (cond opening (depth + 1) (cond closing (depth - 1) depth)) ≡ depth - length (waiting_step at opening closing waiting) + length (cond (opening && not found) (first ∷ []) [] ++ more)
  count-step depth count h = grind arith

none_waits : (waiting : List ℕ) → is_some (slice_get waiting 0) ≡ false → length waiting ≡ 0
none_waits [] e = refl
none_waits (first ∷ waiting) e = cc

-- the word that closes the last of the openers that are open, and the words before and after
abbrev pub ClosesLast : ℕ → ℕ → List PlacedWord → List PlacedWord → List ℕ → List ℕ → Type 0
ClosesLast first address old new before after = ((before ≡ []) × (after ≡ []) × (new ≡ old))
    ⊎ ((prefix : List ℕ) × (at : ℕ) × (before ≡ prefix ++ (first + at) ∷ []) × (after ≡ prefix) × (new ≡ closed_at at address old))

-- with one word more before it, which stays as it is, or which is the last that is open
closes_prefix : (first address : ℕ) (given given' : PlacedWord) (own own' : List ℕ) (old new : List PlacedWord) (before after : List ℕ) → ClosesLast (first + 1) address old new before after
    → ((given' ≡ given) × (own' ≡ own) × (before ≡ [] → own ≡ [])) ⊎ ((before ≡ []) × (own ≡ first ∷ []) × (own' ≡ []) × (given' ≡ record given { lambda = Some address }))
    → ClosesLast first address (given ∷ old) (given' ∷ new) (own ++ before) (own' ++ after)
closes_prefix first address given given' own own' old new before after (inl none) (inl kept) =
    inl (rw (kept.2 none.0, none.0) refl, rw (kept.1, kept.2 none.0, none.1) refl, rw (kept.0, none.2) refl)
closes_prefix first address given given' own own' old new before after (inl none) (inr closed) =
    let here : first + 0 ≡ first = omega arith in
    inr ([], 0, rw (closed.1, none.0, here) refl, rw (closed.2, none.1) refl, rw (closed.3, none.2) refl)
closes_prefix first address given given' own own' old new before after (inr some) (inl kept) =
    let next : first + suc some.1 ≡ first + 1 + some.1 = omega arith in
    inr (own ++ some.0, suc some.1, rw (some.2, next) (sym (append_assoc own some.0 ((first + 1 + some.1) ∷ []))), rw (kept.1, some.3) refl, rw (kept.0, some.4) refl)
closes_prefix first address given given' own own' old new before after (inr some) (inr closed) =
    absurd (omega (arith, ap length (sym closed.0 ∙ some.2), length-append some.0 ((first + 1 + some.1) ∷ [])))

module _ (source : List ℕ) where
  abbrev pub texts_of : List Expanded → List (List ℕ)
  texts_of words = map (expanded_text source) words

  abbrev pub opened : List Expanded → List Expanded → List ℕ
  opened before words = collected (open_given source) before words

  abbrev pub placed : List Expanded → List Expanded → List PlacedWord
  placed before words = collected (placed_given source) before words

  abbrev pub is_balanced : List Expanded → Bool
  is_balanced words = openings (texts_of words) == closings (texts_of words)

  pub distance-more : (words : List Expanded) (word : Expanded)
      → closing_distance source (words ++ word ∷ []) ≡ found_or (closing_distance source words) (closes (expanded_text source word) && is_balanced words) (length words)
  distance-more words word =
      let a : 0 + openings (texts_of words) ≡ openings (texts_of words) = omega arith in
      let b : 0 + closings (texts_of words) ≡ closings (texts_of words) = omega arith in
      rw (map-append (expanded_text source) words (word ∷ []), matching-more 0 0 (texts_of words) (expanded_text source word), a, b, length-map words (expanded_text source)) refl

  pub distance-within : (words : List Expanded) (n : ℕ) → closing_distance source words ≡ Some n → n < length words
  distance-within words n e = omega (arith, matching-within 0 0 (texts_of words) n e, length-map words (expanded_text source))

  -- nothing waits for an opener before the words exactly where none of them is found
  first_waits : (at : ℕ) (words : List Expanded) → is_some (closing_distance source words) ≡ is_some (slice_get (waiting_from source at words) 0)
  first_waits at words = grind (arith, matching-waiting source at words 0 0)

  -- each opener is closed by one of the words or open, and each `}` closes one of them or waits for one before
  balance : (at : ℕ) (before words : List Expanded) → openings (texts_of words) + length (waiting_from source at words) ≡ closings (texts_of words) + length (opened before words)
  balance at before [] = refl
  balance at before (word ∷ words) =
      balance-step (opens (expanded_text source word)) (closes (expanded_text source word)) (is_some (closing_distance source words)) (waiting_from source (at + 1) words) at (length before) _
      (opens-closes (expanded_text source word)) (first_waits (at + 1) words) _ _ (balance (at + 1) (before ++ word ∷ []) words)

  count : (at depth : ℕ) (before words : List Expanded)
      → fold (λ depth word. open_after depth (expanded_text source word)) depth words ≡ depth - length (waiting_from source at words) + length (opened before words)
  count at depth before [] = omega arith
  count at depth before (word ∷ words) =
      count-step (opens (expanded_text source word)) (closes (expanded_text source word)) (is_some (closing_distance source words)) (waiting_from source (at + 1) words) at (length before) _
      (opens-closes (expanded_text source word)) (first_waits (at + 1) words) depth _ (λ n. count (at + 1) n (before ++ word ∷ []) words)

  pub length-open_ones : (words : List Expanded) → open_count source words ≡ length (open_ones source words)
  unfolding open_count open_ones
  length-open_ones words = omega (arith, count 0 0 [] words)

  -- where the words have no `}` for an opener before them
  pub balanced : (before words : List Expanded) → closing_distance source words ≡ None → openings (texts_of words) ≡ closings (texts_of words) + length (opened before words)
  balanced before words e = omega (arith, none_waits (waiting_from source 0 words) (sym (first_waits 0 words) ∙ ap is_some e), balance 0 before words)

  abbrev laid : List Expanded → Expanded → Form → Option ℕ → PlacedWord
  laid before word shape lambda = record { word = word; form = shape; address = address_after source before; size = size shape (expanded_text source word); lambda = lambda }

  module _ (last : Expanded) where
    -- an opener whose distance stays is laid out as before
    lambda-found : (before : List Expanded) (word : Expanded) (words : List Expanded) (found : Option ℕ) → closing_distance source words ≡ found
        → option_map (λ between. address_after source (before ++ word ∷ take between (words ++ last ∷ []))) found ≡ option_map (λ between. address_after source (before ++ word ∷ take between words)) found
    lambda-found before word words None e = refl
    lambda-found before word words (Some n) e =
        let below : n < length words = distance-within words n e in
        ap (λ ws. Some (address_after source (before ++ word ∷ ws))) (take-append-le n words (last ∷ []) (omega arith))

    module _ (before : List Expanded) (word : Expanded) (words : List Expanded) (same : opens (expanded_text source word) ≡ true → closing_distance source (words ++ last ∷ []) ≡ closing_distance source words) where
      lambda-kept : lambda_address source before word (words ++ last ∷ []) ≡ lambda_address source before word words
      lambda-kept = grind (arith, same, lambda-found before word words (closing_distance source words) refl)

      placed-kept : placed_given source before word (words ++ last ∷ []) ≡ placed_given source before word words
      placed-kept = grind (arith, lambda-kept)

      open-kept : open_given source before word (words ++ last ∷ []) ≡ open_given source before word words
      open-kept = grind (arith, same)

    module _ (shape : Form) (shaped : form (expanded_text source last) ≡ Ok shape) where
      last-placed : (before : List Expanded) → placed_given source before last [] ≡ open_word source before last shape ∷ []
      last-placed before = grind arith

      -- one word more that closes nothing
      pub still-more : closes (expanded_text source last) ≡ false → (before words : List Expanded)
          → (placed before (words ++ last ∷ []) ≡ placed before words ++ open_word source (before ++ words) last shape ∷ [])
          × (opened before (words ++ last ∷ []) ≡ opened before words ++ cond (opens (expanded_text source last)) (length (before ++ words) ∷ []) [])
      still-more still before [] = (rw (append-nil before, last-placed before) refl, rw (append-nil before) (grind arith))
      still-more still before (word ∷ words) =
          let rest = still-more still (before ++ word ∷ []) words in
          let same : closing_distance source (words ++ last ∷ []) ≡ closing_distance source words =
          distance-more words last ∙ rw still (grind arith) in
          grind (arith, placed-kept before word words (λ _. same), open-kept before word words (λ _. same), rest, append_assoc)

      -- one word more that closes the last opener that is open
      module _ (closing : closes (expanded_text source last) ≡ true) where
        abbrev stays : List Expanded → Expanded → List Expanded → Form → Type 0
        stays before word words shape =
            ((laid before word shape (lambda_address source before word (words ++ last ∷ [])) ≡ laid before word shape (lambda_address source before word words))
            × (open_given source before word (words ++ last ∷ []) ≡ open_given source before word words) × (opened (before ++ word ∷ []) words ≡ [] → open_given source before word words ≡ []))
            ⊎ ((opened (before ++ word ∷ []) words ≡ []) × (open_given source before word words ≡ length before ∷ []) × (open_given source before word (words ++ last ∷ []) ≡ [])
            × (laid before word shape (lambda_address source before word (words ++ last ∷ [])) ≡ laid before word shape (Some (address_after source (before ++ word ∷ words)))))

        chooses : (before : List Expanded) (word : Expanded) (words : List Expanded) (shape : Form) (found : Option ℕ) (opening : Bool) (inner : List ℕ) → closing_distance source words ≡ found
            → opens (expanded_text source word) ≡ opening → opened (before ++ word ∷ []) words ≡ inner → stays before word words shape
        chooses before word words shape (Some n) opening inner e f g =
            let same = λ (_ : opens (expanded_text source word) ≡ true). distance-more words last ∙ rw e refl in
            inl (ap (laid before word shape) (lambda-kept before word words same), open-kept before word words same, λ _. rw e (grind arith))
        chooses before word words shape None false inner e f g = inl (rw f refl, rw f refl, λ _. rw f refl)
        chooses before word words shape None true [] e f g =
            let even : is_balanced words ≡ true = eq-eqb _ _ (omega (arith, balanced (before ++ word ∷ []) words e, ap length g)) in
            let found : closing_distance source (words ++ last ∷ []) ≡ Some (length words) = distance-more words last ∙ rw (closing, even, e) refl in
            inr (g, rw (e, f) refl, rw (found, f) refl, rw (found, f, take-append_seam words (last ∷ [])) refl)
        chooses before word words shape None true (y ∷ ys) e f g =
            let odd : is_balanced words ≡ false = ne_eqb _ _ (λ same. omega (arith, same, balanced (before ++ word ∷ []) words e, ap length g)) in
            let same = λ (_ : opens (expanded_text source word) ≡ true). distance-more words last ∙ rw (closing, odd, e) refl in
            inl (ap (laid before word shape) (lambda-kept before word words same), open-kept before word words same, λ none. (let never : [] ≡ y ∷ ys = sym none ∙ g in cc))

        pub closes_last : (before words : List Expanded) → ((k : ℕ) → k < length words → (shape : Form) × (form (expanded_text source (get_or words k no_word)) ≡ Ok shape))
            → ClosesLast (length before) (address_after source (before ++ words)) (placed before words ++ open_word source (before ++ words) last shape ∷ []) (placed before (words ++ last ∷ [])) (opened before words) (opened before (words ++ last ∷ []))
        closes_last before [] all =
            let bare : opens (expanded_text source last) ≡ false = grind (arith, opens-closes (expanded_text source last)) in
            inl (refl, rw bare refl, rw (append-nil before, last-placed before) refl)
        closes_last before (word ∷ words) all =
            let formed = all 0 (omega arith) in
            let first : length (before ++ word ∷ []) ≡ length before + 1 = length-append before (word ∷ []) in
            let rest = rw (first, append_assoc before (word ∷ []) words) at (closes_last (before ++ word ∷ []) words (λ k within. all (suc k) (omega arith))) in
            let step = closes_prefix (length before) (address_after source (before ++ word ∷ words)) (laid before word formed.0 (lambda_address source before word words))
            (laid before word formed.0 (lambda_address source before word (words ++ last ∷ []))) _ _ _ _ _ _ rest (chooses before word words formed.0 _ _ _ refl refl refl) in
            rw (formed.1) step

-- an opener has one word more as its `}` where nothing before closes it and all between is even
is_at-found : (n : ℕ) (found : Option ℕ) (test : Bool) → ((m : ℕ) → found ≡ Some m → m < n) → is_at n (found_or found test n) ≡ (not (is_some found) && test)
is_at-found n found test within = grind (arith, nat_tests)

-- an opener has a `}` where it is open and nothing behind it is, so one has it where one is open
found-step : (opening found : Bool) (opens closes at : ℕ) (inner : List ℕ) → (found ≡ false → opens ≡ closes + length inner)
    → ((opening && (not found && opens == closes)) || not (length inner == 0)) ≡ not (length (cond (opening && not found) (at ∷ []) [] ++ inner) == 0)
found-step opening found opens closes at inner even = grind (arith, nat_tests)

pub twice : (b : Bool) → b ≡ not (not b)
twice b = grind arith

module _ (source : List ℕ) (word : Expanded) (last : closes (expanded_text source word) ≡ true) where
  open_found : (earlier words : List Expanded)
      → list_any (λ found. found) (each (λ before opener between. opens (expanded_text source opener) && is_at (length between) (closing_distance source (between ++ word ∷ []))) earlier words)
      ≡ not (length (opened source earlier words) == 0)
  open_found earlier [] = refl
  open_found earlier (first ∷ words) =
      let found = is_at-found (length words) (closing_distance source words) (is_balanced source words) (distance-within source words) in
      rw (open_found (earlier ++ first ∷ []) words, distance-more source words word, last, found)
      (found-step (opens (expanded_text source first)) (is_some (closing_distance source words)) (openings (texts_of source words)) (closings (texts_of source words)) (length earlier) _
      (λ none. balanced source (earlier ++ first ∷ []) words (none_since _ none)))

pub stray_law : (source : List ℕ) (before : List Expanded) (word : Expanded) → closes (expanded_text source word) ≡ true
    → (open_count source before == 0) ≡ not (closes_one_of source before word)
unfolding open_ones
stray_law source before word last = rw (length-open_ones source before, open_found source word last [] before) (twice (length (open_ones source before) == 0))
