-- The tokens of a source, one byte at a time and one token at a time.
use Rattle.std.proofs.Common.{◌≡◌, ℕ, zero, suc, ◌+◌, ◌-◌, ◌<◌, ◌≤◌, true, false, List, [], ◌∷◌, ◌++◌, length, take, get_or, refl, ap, sym, ◌∙◌}
use Rattle.std.proofs.Common.{arith, add-one, append-nil, append_assoc, inl, inr}
use Rattle.std.proofs.Math.Bool.{and-false, or-true}
use Rattle.std.specs.Prelude.{if◌then◌else◌, slice_index}
use Rattle.std.proofs.lemmas.List.{length-append, length-take, get_or_past}
use Rattle.std.proofs.lemmas.List.Sums.{count_by_more_yes, count_by_more_no, count_by-le-length}
use Rattle.std.proofs.lemmas.Bool.{cases_lt}
use Rattle.std.proofs.Math.Seq.{get_or-append_seam}
use Rattle.tal_words.specs.declared.span.Word.{Word}
use Rattle.tal_words.specs.Source.{is_blank, is_newline, line_at, column_at, is_after_blank, is_between, begins_token, token_at, run_length}
use Rattle.tal_words.specs.Source.{tokens_below, tokens_of}
use Rattle.tal_words.proofs.Runs.{run_length-blank, run_length-more, run_length-end}

-- the line and the column are no greater than the offset and one
pub line_bound : (source : List ℕ) (at : ℕ) → line_at source at ≤ at + 1
unfolding line_at
line_bound source at = omega (arith, count_by-le-length is_newline (take at source), length-take at source)

pub column_bound : (source : List ℕ) (at : ℕ) → column_at source at ≤ at + 1
unfolding column_at
column_bound source zero = omega arith
column_bound source (suc at) = grind (arith, column_bound source at)

-- one byte more
pub line_more : (source : List ℕ) (at : ℕ) → at < length source
    → line_at source (at + 1) ≡ (if is_newline (get_or source at 0) then line_at source at + 1 else line_at source at)
unfolding line_at
line_more source at within = grind (arith, count_by_more_yes is_newline source at 0, count_by_more_no is_newline source at 0)

pub column_more : (source : List ℕ) (at : ℕ)
    → column_at source (at + 1) ≡ (if is_newline (slice_index source at) then 1 else column_at source at + 1)
unfolding column_at
column_more source at = rw (add-one at) refl

pub tokens_more : (source : List ℕ) (at : ℕ)
    → tokens_below source (at + 1) ≡ tokens_below source at ++ (if begins_token source at then token_at source at ∷ [] else [])
unfolding tokens_below
tokens_more source at = rw (add-one at) refl

after_more : (source : List ℕ) (at : ℕ) → is_after_blank source (at + 1) ≡ is_blank (slice_index source at)
after_more source at = rw (add-one at) refl

-- a byte that is no blank is no newline
plain_line : (byte : ℕ) → is_blank byte ≡ false → is_newline byte ≡ false
plain_line byte plain = grind arith

-- what a scanner knows at a place between tokens
pub record Between (source : List ℕ) (start at line column : ℕ) : Type 0 where
  pub lines : line ≡ line_at source at
  pub columns : column ≡ column_at source at
  pub between : is_between source at ≡ true
  pub tokens : tokens_below source at ≡ tokens_below source start

-- a blank behind it
pub between_more : (source : List ℕ) (start at line column next_line next_column : ℕ) → at < length source
    → is_blank (get_or source at 0) ≡ true → Between source start at line column
    → next_line ≡ (if is_newline (get_or source at 0) then line + 1 else line)
    → next_column ≡ (if is_newline (get_or source at 0) then 1 else column + 1)
    → Between source start (at + 1) next_line next_column
between_more source start at line column next_line next_column within blank here lines columns = record {
  lines = rw (lines, here.lines) (sym (line_more source at within));
  columns = rw (columns, here.columns) (sym (column_more source at));
  between = rw (after_more source at, blank) refl;
  tokens = rw (tokens_more source at, blank, and-false, append-nil) here.tokens;
}

-- a token has a byte, which is no blank
begins_plain : (source : List ℕ) (at : ℕ) → begins_token source at ≡ true → is_blank (get_or source at 0) ≡ false
begins_plain source at begins = grind arith

-- a run of no bytes ends at a blank, or at the end
ends : (source : List ℕ) (from : ℕ) → run_length source from ≡ 0 → is_blank (get_or source from 0) ≡ true
ends source from run = elim (cases_lt from (length source)) [
  | inl within ↦ grind (arith, run_length-more source from within)
  | inr past ↦ rw (get_or_past source from 0 past) refl
]

-- a run of some bytes begins within the source at no blank
begins : (source : List ℕ) (from count : ℕ) → run_length source from ≡ count + 1
    → (from < length source) × (is_blank (get_or source from 0) ≡ false) × (run_length source (from + 1) ≡ count)
begins source from count run =
    let within : from < length source = grind (arith, run_length-end source from) in
    let plain : is_blank (get_or source from 0) ≡ false = grind (arith, run_length-blank source from within) in
    (within, plain, omega (arith, run_length-more source from within plain))

-- what a scanner knows behind the rest of a token
record Along (source : List ℕ) (from at : ℕ) : Type 0 where
  lines : line_at source at ≡ line_at source from
  columns : column_at source at + from ≡ column_at source from + at
  blank : is_blank (get_or source at 0) ≡ true
  tokens : tokens_below source at ≡ tokens_below source from

-- a byte of a token that is not its first one
along_one : (source : List ℕ) (from : ℕ) → from < length source → is_blank (get_or source from 0) ≡ false → is_after_blank source from ≡ false
    → (line_at source (from + 1) ≡ line_at source from) × (column_at source (from + 1) ≡ column_at source from + 1)
    × (tokens_below source (from + 1) ≡ tokens_below source from)
along_one source from within plain inside =
    let newline = plain_line (get_or source from 0) plain in (
      rw (line_more source from within, newline) refl,
      rw (column_more source from, newline) refl,
      rw (tokens_more source from, inside, append-nil) refl,
    )

along : (count : ℕ) (source : List ℕ) (from at : ℕ) → from + count ≡ at → run_length source from ≡ count → is_after_blank source from ≡ false
    → Along source from at
along zero source from at is run inside =
    let same : at ≡ from = omega (arith, is) in
    rw same record { lines = refl; columns = refl; blank = ends source from run; tokens = refl }
along (suc count) source from at is run inside =
    let first = begins source from count (omega (arith, run)) in
    let one = along_one source from first.0 first.1 inside in
    let rest = along count source (from + 1) at (omega (arith, is)) first.2 (after_more source from ∙ first.1) in
    record {
      lines = rest.lines ∙ one.0;
      columns = omega (arith, rest.columns, one.1);
      blank = rest.blank;
      tokens = rest.tokens ∙ one.2;
    }

-- what a token says of itself
pub token_fields : (source : List ℕ) (at : ℕ) (token : Word) → token ≡ token_at source at
    → (token.span.start ≡ at) × (token.span.end ≡ at + run_length source at) × (token.line ≡ line_at source at) × (token.column ≡ column_at source at)
unfolding token_at
token_fields source at token is = rw is (refl, refl, refl, refl)

-- behind a token
pub past_token : (source : List ℕ) (from : ℕ) → from < length source → begins_token source from ≡ true
    → (line_at source (from + run_length source from) ≡ line_at source from)
    × (column_at source (from + run_length source from) ≡ column_at source from + run_length source from)
    × (is_between source (from + run_length source from) ≡ true)
    × (tokens_below source (from + run_length source from) ≡ tokens_below source from ++ (token_at source from ∷ []))
    × (0 < run_length source from)
past_token source from within starts =
    let plain = begins_plain source from starts in
    let more = run_length-more source from within plain in
    let newline = plain_line (get_or source from 0) plain in
    let rest =
    along (run_length source (from + 1)) source (from + 1) (from + run_length source from) (omega (arith, more)) refl
    (after_more source from ∙ plain) in
    let line : line_at source (from + 1) ≡ line_at source from = rw (line_more source from within, newline) refl in
    let column : column_at source (from + 1) ≡ column_at source from + 1 = rw (column_more source from, newline) refl in
    let token : tokens_below source (from + 1) ≡ tokens_below source from ++ (token_at source from ∷ []) = rw (tokens_more source from, starts) refl
    in
    (rest.lines ∙ line, omega (arith, rest.columns, column, more), rw (rest.blank, or-true) refl, rest.tokens ∙ token, omega (arith, more))

-- no more tokens than bytes
pub tokens_bound : (source : List ℕ) (at : ℕ) → length (tokens_below source at) ≤ at
unfolding tokens_below
tokens_bound source zero = omega arith
tokens_bound source (suc at) =
    grind (arith, tokens_bound source at, length-append (tokens_below source at) (token_at source at ∷ []), append-nil)

-- the tokens below an offset come first among all
prefix : (source : List ℕ) (at count : ℕ) → (more : List Word) × (tokens_below source (at + count) ≡ tokens_below source at ++ more)
prefix source at zero = ([], (let same : at + 0 ≡ at = omega arith in rw (same, append-nil) refl))
prefix source at (suc count) =
    let before = prefix source at count in
    let last = if begins_token source (at + count) then token_at source (at + count) ∷ [] else [] in
    let step : at + suc count ≡ at + count + 1 = omega arith in
    (before.0 ++ last, rw (step, tokens_more source (at + count), before.1, append_assoc) refl)

-- the token that begins at an offset has its place among all
pub token_there : (source : List ℕ) (at : ℕ) (none : Word) → at < length source → begins_token source at ≡ true
    → (length (tokens_below source at) < length (tokens_of source))
    × (get_or (tokens_of source) (length (tokens_below source at)) none ≡ token_at source at)
unfolding tokens_of
token_there source at none within starts =
    let later = prefix source (at + 1) (length source - (at + 1)) in
    let end : at + 1 + (length source - (at + 1)) ≡ length source = omega arith in
    let token : tokens_below source (at + 1) ≡ tokens_below source at ++ (token_at source at ∷ []) = rw (tokens_more source at, starts) refl in
    let all : tokens_below source (length source) ≡ tokens_below source at ++ (token_at source at ∷ later.0) =
    sym (ap (tokens_below source) end) ∙ rw (later.1, token, append_assoc) refl in
    rw all (
      omega (arith, length-append (tokens_below source at) (token_at source at ∷ later.0)),
      get_or-append_seam (tokens_below source at) (token_at source at) later.0 none,
    )

-- where a source begins
pub start_line : (source : List ℕ) → line_at source 0 ≡ 1
unfolding line_at
start_line source = refl

pub start_column : (source : List ℕ) → column_at source 0 ≡ 1
unfolding column_at
start_column source = refl

pub no_tokens : (source : List ℕ) → tokens_below source 0 ≡ []
unfolding tokens_below
no_tokens source = refl

-- where it ends
pub all_passed : (source : List ℕ) (at : ℕ) → length source ≤ at → at ≤ length source
    → length (tokens_of source) ≤ length (tokens_below source at)
unfolding tokens_of
all_passed source at past within = let end : at ≡ length source = omega arith in rw end (omega arith)

-- one token more than before it
pub tokens_one_more : (source : List ℕ) (at here next : ℕ) → tokens_below source next ≡ tokens_below source here
    → tokens_below source here ≡ tokens_below source at ++ (token_at source at ∷ [])
    → length (tokens_below source next) ≡ length (tokens_below source at) + 1
tokens_one_more source at here next blanks token =
    ap length (blanks ∙ token) ∙ length-append (tokens_below source at) (token_at source at ∷ [])
