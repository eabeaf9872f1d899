-- Runs of bytes that are no blanks, one byte at a time.
use Rattle.std.proofs.Common.{◌≡◌, ℕ, ◌+◌, ◌<◌, ◌≤◌, true, false, not, List, length, get_or, refl, arith}
use Rattle.std.specs.List.{prefix_len}
use Rattle.std.proofs.lemmas.List.{at_drop_more, at_drop_all}
use Rattle.tal_words.specs.Source.{is_blank, run_length}

-- the run at a blank is empty
pub run_length-blank : (source : List ℕ) (at : ℕ) → at < length source → is_blank (get_or source at 0) ≡ true → run_length source at ≡ 0
run_length-blank source at within blank =
    let step = at_drop_more (prefix_len (λ byte. not (is_blank byte))) source at 0 within in
    rw (step, blank) refl

-- a byte that is no blank adds one to the run after it
pub run_length-more : (source : List ℕ) (at : ℕ) → at < length source → is_blank (get_or source at 0) ≡ false → run_length source at ≡ run_length source (at + 1) + 1
run_length-more source at within plain =
    let step = at_drop_more (prefix_len (λ byte. not (is_blank byte))) source at 0 within in
    rw (step, plain) (omega arith)

-- the run at the end is empty
pub run_length-end : (source : List ℕ) (at : ℕ) → length source ≤ at → run_length source at ≡ 0
run_length-end source at past = at_drop_all (prefix_len (λ byte. not (is_blank byte))) source at past
