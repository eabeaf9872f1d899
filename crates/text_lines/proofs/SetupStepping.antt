-- What is gathered line by line is what the lines give.
use Rattle.std.proofs.Common.{◌≡◌, ℕ, ◌+◌, List, [], ◌∷◌, ◌++◌, Option, Some, None, Ok, Err, append-nil, refl, sym, ap, ◌∙◌, arith}
use Rattle.std.specs.Prelude.{slice_get, is_some}
use Rattle.std.specs.List.{flat_map}
use Rattle.std.proofs.lemmas.List.Concat.{flat_map-append}
use Rattle.text_lines.specs.Lines.{LinesView, lines_of, words_of}
use Rattle.text_lines.specs.Reading.{Line, given, fault_if, each_line}
use Rattle.text_lines.specs.declared.setup.SetupKind.{SetupKind}
use Rattle.text_lines.specs.declared.setup_line.SetupLine.{SetupLine}
use Rattle.text_lines.specs.declared.setup_line.SetupLine.TheVariants.{Machine, Script, Budget, Turn}
use Rattle.text_lines.specs.SetupLines.{setup_line_of}
use Rattle.text_lines.specs.Setups.{SetupView, sources_in, scripts_in, budgets_in, schedule_in, setup_from, setup_fault}
use Rattle.text_lines.specs.SetupGathered.{validated, grown}

-- one line more gives what it gives
more : {A : Type 0} (give : SetupLine → List A) (before : List SetupLine) (line : SetupLine) → flat_map give (before ++ line ∷ []) ≡ flat_map give before ++ give line
more give before line = flat_map-append give before (line ∷ []) ∙ ap (λ last. flat_map give before ++ last) (append-nil (give line))

-- and nothing where it gives none
none : {A : Type 0} (give : SetupLine → List A) (before : List SetupLine) (line : SetupLine) → give line ≡ [] → flat_map give (before ++ line ∷ []) ≡ flat_map give before
none give before line is = more give before line ∙ ap (λ last. flat_map give before ++ last) is ∙ append-nil (flat_map give before)

-- the first of a kind
some_not_none : {A : Type 0} {x : A} → Some x ≡ None → ⊥
some_not_none e = grind (arith, e)

first : {A : Type 0} (xs : List A) (x : A) (kind : SetupKind) → fault_if (is_some (slice_get xs 0)) kind ≡ None → slice_get (xs ++ x ∷ []) 0 ≡ Some x
first [] x kind fine = refl
first (y ∷ ys) x kind fine = absurd (some_not_none fine)

grows : (before : List SetupLine) (line : SetupLine) → setup_fault before line ≡ None → setup_from (before ++ line ∷ []) ≡ grown (setup_from before) line
grows before (Machine path) fine =
    rw (more sources_in before (Machine path), none scripts_in before (Machine path) refl, none budgets_in before (Machine path) refl, none schedule_in before (Machine path) refl) refl
grows before (Script path) fine =
    rw (none sources_in before (Script path) refl, more scripts_in before (Script path), none budgets_in before (Script path) refl, none schedule_in before (Script path) refl, first (flat_map scripts_in before) path _ fine) refl
grows before (Budget number) fine =
    rw (none sources_in before (Budget number) refl, none scripts_in before (Budget number) refl, more budgets_in before (Budget number), none schedule_in before (Budget number) refl, first (flat_map budgets_in before) number _ fine) refl
grows before (Turn turns) fine =
    rw (none sources_in before (Turn turns) refl, none scripts_in before (Turn turns) refl, none budgets_in before (Turn turns) refl, more schedule_in before (Turn turns)) refl

-- the lines that are left, after what the lines before them gave
pub record Standing (text : List ℕ) (lines : LinesView) (so_far : SetupView) : Type 0 where
  pub before : List SetupLine
  pub gathers : so_far ≡ setup_from before
  pub rest : given setup_fault (lines.number + 1) before (each_line setup_line_of lines.left) ≡ given setup_fault 1 [] (each_line setup_line_of (lines_of text))

-- how a line goes on that is validated to give something, to give nothing, or to be faulty
abbrev Goes : ℕ → List SetupLine → Line SetupLine SetupKind → List (Line SetupLine SetupKind) → Line SetupLine SetupKind → Type 0
Goes at before line left (Ok (Some found)) =
    (given setup_fault at before (line ∷ left) ≡ given setup_fault (at + 1) (before ++ found ∷ []) left) × (setup_fault before found ≡ None)
Goes at before line left (Ok None) = given setup_fault at before (line ∷ left) ≡ given setup_fault (at + 1) before left
Goes at before line left (Err kind) = given setup_fault at before (line ∷ left) ≡ Err (at, kind)

goes_by : (at : ℕ) (before : List SetupLine) (found : SetupLine) (left : List (Line SetupLine SetupKind)) (fault : Option SetupKind) → setup_fault before found ≡ fault
    → Goes at before (Ok (Some found)) left (validated (setup_from before) (Ok (Some found)))
goes_by at before found left None is = rw is (rw is refl, is)
goes_by at before found left (Some kind) is = rw is (rw is refl)

goes : (at : ℕ) (before : List SetupLine) (line : Line SetupLine SetupKind) (left : List (Line SetupLine SetupKind)) → Goes at before line left (validated (setup_from before) line)
goes at before (Ok (Some found)) left = goes_by at before found left (setup_fault before found) refl
goes at before (Ok None) left = refl
goes at before (Err kind) left = refl

-- the next line, as it is validated
next_line : (text line : List ℕ) (lines next : LinesView) (so_far : SetupView) (answer : Line SetupLine SetupKind) → (standing : Standing text lines so_far) → lines.left ≡ line ∷ next.left
    → answer ≡ validated so_far (setup_line_of (words_of line))
    → Goes (lines.number + 1) standing.before (setup_line_of (words_of line)) (each_line setup_line_of next.left) answer
next_line text line lines next so_far answer standing cut is =
    rw (is, standing.gathers) (goes (lines.number + 1) standing.before (setup_line_of (words_of line)) (each_line setup_line_of next.left))

-- what is left, with the next line before it
with_next : (text line : List ℕ) (lines next : LinesView) (so_far : SetupView) → (standing : Standing text lines so_far) → lines.left ≡ line ∷ next.left
    → given setup_fault (lines.number + 1) standing.before (setup_line_of (words_of line) ∷ each_line setup_line_of next.left) ≡ given setup_fault 1 [] (each_line setup_line_of (lines_of text))
with_next text line lines next so_far standing cut =
    ap (λ left. given setup_fault (lines.number + 1) standing.before (each_line setup_line_of left)) (sym cut) ∙ standing.rest

pub taken : (text line : List ℕ) (lines next : LinesView) (so_far after : SetupView) (found : SetupLine) → Standing text lines so_far → lines.left ≡ line ∷ next.left
    → next.number ≡ lines.number + 1 → Ok (Some found) ≡ validated so_far (setup_line_of (words_of line)) → after ≡ grown so_far found → Standing text next after
taken text line lines next so_far after found standing cut counted is grew =
    let step = next_line text line lines next so_far (Ok (Some found)) standing cut is in
    record {
      before = standing.before ++ found ∷ [];
      gathers = grew ∙ ap (λ view. grown view found) standing.gathers ∙ sym (grows standing.before found step.1);
      rest = ap (λ at. given setup_fault (at + 1) (standing.before ++ found ∷ []) (each_line setup_line_of next.left)) counted ∙ sym step.0
          ∙ with_next text line lines next so_far standing cut;
    }

pub passed : (text line : List ℕ) (lines next : LinesView) (so_far : SetupView) → Standing text lines so_far → lines.left ≡ line ∷ next.left
    → next.number ≡ lines.number + 1 → Ok None ≡ validated so_far (setup_line_of (words_of line)) → Standing text next so_far
passed text line lines next so_far standing cut counted is =
    let step = next_line text line lines next so_far (Ok None) standing cut is in
    record {
      before = standing.before;
      gathers = standing.gathers;
      rest = ap (λ at. given setup_fault (at + 1) standing.before (each_line setup_line_of next.left)) counted ∙ sym step
          ∙ with_next text line lines next so_far standing cut;
    }

-- a line is refused
pub refused : (text line : List ℕ) (lines next : LinesView) (so_far : SetupView) (kind : SetupKind) → Standing text lines so_far → lines.left ≡ line ∷ next.left
    → next.number ≡ lines.number + 1 → Err kind ≡ validated so_far (setup_line_of (words_of line))
    → given setup_fault 1 [] (each_line setup_line_of (lines_of text)) ≡ Err (next.number, kind)
refused text line lines next so_far kind standing cut counted is =
    let step = next_line text line lines next so_far (Err kind) standing cut is in
    sym (with_next text line lines next so_far standing cut) ∙ step ∙ ap (λ at. Err (at, kind)) (sym counted)

-- all lines are taken
pub all_taken : (text : List ℕ) (lines : LinesView) (so_far : SetupView) → Standing text lines so_far → lines.left ≡ []
    → (all : List SetupLine) × (so_far ≡ setup_from all) × (given setup_fault 1 [] (each_line setup_line_of (lines_of text)) ≡ Ok all)
all_taken text lines so_far standing end =
    (standing.before, standing.gathers, sym standing.rest ∙ ap (λ left. given setup_fault (lines.number + 1) standing.before (each_line setup_line_of left)) end)
