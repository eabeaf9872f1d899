-- How words come off the start of a line.
use Rattle.std.proofs.lemmas.Grind.{common_steps}
use Rattle.std.proofs.Common.{◌≡◌, ◌≢◌, ℕ, zero, suc, ◌+◌, ◌<◌, ◌≤◌, Bool, true, false, cond, ltb, leb, List, [], ◌∷◌, ◌++◌, length, take, drop}
use Rattle.std.proofs.Common.{get_or, append-nil, refl, sym, ap, ◌∙◌, arith, rules, tests}
use Rattle.std.specs.List.{All}
use Rattle.std.proofs.lemmas.Bool.{cases_lt, lt-ltb, le-leb}
use Rattle.std.proofs.lemmas.List.{drop-drop, length-take-le, length-drop, get_or-drop, take-append-drop}
use Rattle.std.proofs.lemmas.List.Elements.{All-head, All-tail}
use Rattle.std.proofs.lemmas.List.Splits.{slice_split_none, slice_split_at, slice_split-cons_yes}
use Rattle.text_lines.specs.Lines.{is_blank, is_newline, lines_of, words_of, lines_from}

-- blanks at the start part nothing
pub after_blank : (byte : ℕ) (line : List ℕ) → is_blank byte ≡ true → words_of (byte ∷ line) ≡ words_of line
unfolding words_of
after_blank byte line blank = rw (slice_split-cons_yes is_blank byte line blank) refl

pub after_blanks : (n : ℕ) (line : List ℕ) → n ≤ length line → All (λ byte. is_blank byte ≡ true) (take n line) → words_of line ≡ words_of (drop n line)
after_blanks zero line within blank = refl
after_blanks (suc n) [] within blank = absurd (omega arith)
after_blanks (suc n) (byte ∷ line) within blank =
    after_blank byte line (All-head (λ b. is_blank b ≡ true) byte (take n line) blank)
    ∙ after_blanks n line (omega arith) (All-tail (λ b. is_blank b ≡ true) byte (take n line) blank)

pub no_words : words_of [] ≡ []
unfolding words_of
no_words = refl

-- a word that reaches to the next blank or to the end
pub prefix_word : (word rest : List ℕ) → 0 < length word → All (λ byte. is_blank byte ≡ false) word
    → (0 < length rest → is_blank (get_or rest 0 0) ≡ true) → words_of (word ++ rest) ≡ word ∷ words_of rest
unfolding words_of
prefix_word word [] some plain next = grind (arith, common_steps, append-nil, slice_split_none)
prefix_word word (byte ∷ rest) some plain next = grind (arith, common_steps, slice_split-cons_yes, slice_split_at)

n-plus-0 : (n : ℕ) → n + 0 ≡ n
n-plus-0 n = omega arith

pub word_at_prefix : (n : ℕ) (line : List ℕ) → 0 < n → n ≤ length line → All (λ byte. is_blank byte ≡ false) (take n line) → (n < length line → is_blank (get_or line n 0) ≡ true) → words_of line ≡ take n line ∷ words_of (drop n line)
word_at_prefix n line some within plain next =
    let size : length (take n line) ≡ n = length-take-le n line within in
    let stop : 0 < length (drop n line) → is_blank (get_or (drop n line) 0 0) ≡ true = λ more.
    rw (get_or-drop n line 0 0, n-plus-0 n) (next (omega (arith, length-drop n line))) in
    ap words_of (sym (take-append-drop n line)) ∙ prefix_word (take n line) (drop n line) (omega arith) plain stop

not_false : (b : Bool) → b ≢ false → b ≡ true
not_false true h = refl
not_false false h = absurd (h refl)

-- a word stands behind the blanks at the start, where these are not all
pub some_word : (n m : ℕ) (line : List ℕ) → (n < length line → is_blank (get_or line n 0) ≢ true) → 0 < length (drop n line)
    → (m < length (drop n line) → is_blank (get_or (drop n line) m 0) ≢ false) → 0 < m
some_word n zero line plain more stop = grind (arith, common_steps)
some_word n (suc m) line plain more stop = omega arith

pub cut_is : (n m : ℕ) (line : List ℕ) → n ≤ length line → All (λ byte. is_blank byte ≡ true) (take n line)
    → 0 < m → m ≤ length (drop n line) → All (λ byte. is_blank byte ≡ false) (take m (drop n line))
    → (m < length (drop n line) → is_blank (get_or (drop n line) m 0) ≢ false)
    → words_of line ≡ take m (drop n line) ∷ words_of (drop m (drop n line))
cut_is n m line within blanks some inside plain stop = search (rules, tests, after_blanks, not_false, word_at_prefix)

-- a line reaches to the next newline or to the end
prefix_line : (line rest : List ℕ) → All (λ byte. is_newline byte ≡ false) line → (0 < length rest → is_newline (get_or rest 0 0) ≡ true)
    → lines_of (line ++ rest) ≡ line ∷ cond (ltb 0 (length rest)) (lines_of (drop 1 rest)) []
prefix_line line [] plain next = rw (append-nil line, slice_split_none is_newline line plain) refl
prefix_line line (byte ∷ rest) plain next = grind (arith, common_steps, slice_split_at)

pub not_lt : (a b : ℕ) → b ≤ a → ltb a b ≡ false
not_lt a b h = grind arith

pub not_le : (a b : ℕ) → b < a → leb a b ≡ false
not_le a b h = grind arith

dropped : (text : List ℕ) (at n : ℕ) → drop 1 (drop n (drop at text)) ≡ drop (at + (n + 1)) text
dropped text at n = drop-drop 1 n (drop at text) ∙ drop-drop (n + 1) at text

more_lines : (text : List ℕ) (at n : ℕ) → at ≤ length text → n ≤ length (drop at text)
    → cond (ltb 0 (length (drop n (drop at text)))) (lines_of (drop 1 (drop n (drop at text)))) [] ≡ lines_from text (at + (n + 1))
more_lines text at n within inside = grind (arith, common_steps, cases_lt, dropped, le-leb, length-drop, lt-ltb, not_le, not_lt)

pub line_is : (text : List ℕ) (at n : ℕ) → at ≤ length text → n ≤ length (drop at text) → All (λ byte. is_newline byte ≡ false) (take n (drop at text))
    → (n < length (drop at text) → is_newline (get_or (drop at text) n 0) ≡ true)
    → lines_from text at ≡ take n (drop at text) ∷ lines_from text (at + (n + 1))
line_is text at n within inside plain stop =
    let test = le-leb at (length text) within in
    let next : 0 < length (drop n (drop at text)) → is_newline (get_or (drop n (drop at text)) 0 0) ≡ true = λ more.
    rw (get_or-drop n (drop at text) 0 0, n-plus-0 n) (stop (omega (arith, length-drop n (drop at text)))) in
    rw test (ap lines_of (sym (take-append-drop n (drop at text))) ∙ prefix_line (take n (drop at text)) (drop n (drop at text)) plain next
    ∙ ap (λ more. take n (drop at text) ∷ more) (more_lines text at n within inside))
