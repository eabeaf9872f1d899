-- What is gathered line by line is what the lines give.
use Rattle.std.proofs.lemmas.Grind.{common_steps}
use Rattle.std.proofs.Common.{◌≡◌, ℕ, ◌+◌, Bool, true, false, ◌||◌, ltb, List, [], ◌∷◌, ◌++◌, length, Some, None, Result, Ok, Err, append-nil, refl}
use Rattle.std.proofs.Common.{sym, ap, ◌∙◌, arith}
use Rattle.std.specs.Option.{is_some}
use Rattle.std.specs.Prelude.{slice_get}
use Rattle.std.proofs.lemmas.List.{length-append}
use Rattle.std.proofs.lemmas.List.Concat.{flat_map-append}
use Rattle.uxn_limits.specs.declared.limits.TheConstants.{TEXT_LIMIT}
use Rattle.text_lines.specs.Lines.{LinesView, lines_of, words_of}
use Rattle.text_lines.specs.Reading.{Line, given, made, fault_if, each_line}
use Rattle.text_lines.specs.declared.script.ScriptKind.{ScriptKind}
use Rattle.text_lines.specs.declared.script.ScriptKind.TheVariants.{Late}
use Rattle.text_lines.specs.declared.script.Version.{Version}
use Rattle.text_lines.specs.ScriptRows.{Meaning, version, clock, arguments, events, script_line_of}
use Rattle.text_lines.specs.Scripts.{GatheredView, gathered, gathering_fault, script_fault, ScriptView, script_from, script_in, version_in}
use Rattle.text_lines.specs.ScriptGathered.{grown, TakesLine}

-- the script of lines, and of a text that is short enough
abbrev pub script_by : Version → List (List ℕ) → Result ScriptView (ℕ × ScriptKind)
script_by number lines = made (script_from number) (given (script_fault number) 1 [] (each_line (script_line_of number) lines))

pub short_script : (number : Version) (text : List ℕ) → ltb TEXT_LIMIT (length text) ≡ false → script_in number text ≡ script_by number (lines_of text)
short_script number text short = rw short refl

-- what the lines with one more give
begun_now : (before : List Meaning) (m : Meaning) → ltb 0 (length (before ++ m ∷ [])) ≡ true
begun_now before m = let size = length-append before (m ∷ []) in grind (arith, size)

-- a first one stays the first
some_not_none : {A : Type 0} {x : A} → Some x ≡ None → ⊥
some_not_none e = grind (arith, e)

first_of_empty : {A : Type 0} (xs : List A) (x : A) (some : Bool) → fault_if (some || is_some (slice_get xs 0)) Late ≡ None → slice_get (xs ++ x ∷ []) 0 ≡ Some x
first_of_empty [] x some none = refl
first_of_empty (y ∷ ys) x true none = absurd (some_not_none none)
first_of_empty (y ∷ ys) x false none = absurd (some_not_none none)

grows : (number : Version) (before : List Meaning) (m : Meaning) → gathering_fault (gathered number before) m ≡ None
    → gathered number (before ++ m ∷ []) ≡ grown (gathered number before) m
grows number before version none = rw (begun_now before version) (simp (flat_map-append, append-nil) refl)
grows number before (clock time) none = grind (arith, common_steps, append-nil, begun_now, first_of_empty, flat_map-append)
grows number before (arguments texts) none = grind (arith, common_steps, append-nil, begun_now, first_of_empty, flat_map-append)
grows number before (events given) none = rw (begun_now before (events given)) (simp (flat_map-append, append-nil) refl)

-- the lines that are left, after what the lines before them gave
pub record Standing (text : List ℕ) (lines : LinesView) (so_far : GatheredView) : Type 0 where
  pub before : List Meaning
  pub gathers : so_far ≡ gathered (version_in (lines_of text)) before
  pub rest : given (script_fault (version_in (lines_of text))) (lines.number + 1) before (each_line (script_line_of (version_in (lines_of text))) lines.left) ≡ given (script_fault (version_in (lines_of text))) 1 [] (each_line (script_line_of (version_in (lines_of text))) (lines_of text))
  pub within : lines.size ≡ length text

-- a line is taken
taken : (number : Version) (at : ℕ) (before : List Meaning) (line : Line Meaning ScriptKind) (left : List (Line Meaning ScriptKind)) (answer : Unit {0}) (after : GatheredView)
    → TakesLine (gathered number before) line (Ok answer) after
    → (next : List Meaning) × (after ≡ gathered number next) × (given (script_fault number) at before (line ∷ left) ≡ given (script_fault number) (at + 1) next left)
taken number at before (Ok None) left answer after takes = (before, takes, refl)
taken number at before (Ok (Some m)) left answer after takes = grind (arith, common_steps, grows)
taken number at before (Err kind) left answer after takes = absurd takes

pub go_on : (text line : List ℕ) (lines next : LinesView) (so_far after : GatheredView) (answer : Unit {0}) → Standing text lines so_far → lines.left ≡ line ∷ next.left
    → next.number ≡ lines.number + 1 → next.size ≡ lines.size → TakesLine so_far (script_line_of so_far.version (words_of line)) (Ok answer) after → Standing text next after
go_on text line lines next so_far after answer standing cut counted size takes =
    let number = version_in (lines_of text) in
    let here = rw standing.gathers at takes in
    let found = taken number (lines.number + 1) standing.before (script_line_of number (words_of line)) (each_line (script_line_of number) next.left) answer after here in
    record {
      before = found.0;
      gathers = found.1;
      rest = ap (λ at. given (script_fault number) (at + 1) found.0 (each_line (script_line_of number) next.left)) counted ∙ sym found.2
          ∙ ap (λ left. given (script_fault number) (lines.number + 1) standing.before (each_line (script_line_of number) left)) (sym cut) ∙ standing.rest;
      within = size ∙ standing.within;
    }
