-- What version 1 reads, version 2 reads too.
use Rattle.std.proofs.lemmas.Grind.{common_steps}
use Rattle.std.proofs.Common.{◌≡◌, ℕ, ◌+◌, ◌<◌, ◌≤◌, Bool, true, false, cond, List, [], ◌∷◌, ◌++◌, length, Option, Some, None, Result, Ok, Err, refl}
use Rattle.std.proofs.Common.{sym, ap, ◌∙◌, arith, rules, tests}
use Rattle.std.specs.Prelude.{codes}
use Rattle.std.specs.List.{All, AllByRecursion, find}
use Rattle.std.specs.Option.{option_map, ok_or, IfSome}
use Rattle.std.specs.Str.{bytes_eq}
use Rattle.std.proofs.lemmas.List.Elements.{All-from_get_or}
use Rattle.std.proofs.lemmas.List.Splits.{slice_split_at}
use Rattle.uxn_limits.specs.declared.limits.TheConstants.{TEXT_LIMIT}
use Rattle.text_lines.specs.declared.row.Counts.{Counts}
use Rattle.text_lines.specs.declared.row.Counts.TheVariants.{Exactly, Between}
use Rattle.text_lines.specs.declared.row.LineFault.{LineFault}
use Rattle.text_lines.specs.Lines.{is_newline, words_of}
use Rattle.text_lines.specs.Numbers.{begins_with}
use Rattle.text_lines.specs.Reading.{Line, given, made, each_line}
use Rattle.text_lines.specs.Named.{value_named}
use Rattle.text_lines.specs.Rows.{fault_named, counted, keyword_of, line_by}
use Rattle.text_lines.specs.declared.script_word.Keyword.{Keyword}
use Rattle.text_lines.specs.declared.script_word.Keyword.TheVariants as word
use Rattle.text_lines.specs.declared.script.ScriptKind.{ScriptKind}
use Rattle.text_lines.specs.declared.script.ScriptKind.TheVariants.{Unknown, Missing, Extra, BadValue}
use Rattle.text_lines.specs.declared.script.Version.{Version}
use Rattle.text_lines.specs.declared.script.Version.TheVariants.{First, Second}
use Rattle.text_lines.specs.ScriptRows.{Meaning, version, clock, arguments, events, script_meaning_of, events_of_line, device_of, version_of}
use Rattle.text_lines.specs.ScriptRows.{clock_of_values, keys_of, buttons_of, first_rows, second_rows, script_line_of, rows_of}
use Rattle.text_lines.specs.Scripts.{ScriptView, script_fault, script_from, script_of, version_in}
use Rattle.text_lines.specs.ScriptValues.{texts_of_values}
use Rattle.text_lines.proofs.ScriptStepping.{script_by, short_script}

-- what is found in a table
found_at : {A : Type 0} (P : A → Type 0) (test : A → Bool) (x : A) (later : Option A) (b : Bool) → test x ≡ b → P x → IfSome later (λ y. P y × (test y ≡ true))
    → IfSome (cond b (Some x) later) (λ y. P y × (test y ≡ true))
found_at P test x later true is here more = (here, is)
found_at P test x later false is here more = more

found_holds : {A : Type 0} (P : A → Type 0) (test : A → Bool) (xs : List A) → AllByRecursion P xs → IfSome (find test xs) (λ x. P x × (test x ≡ true))
found_holds P test [] all = tt
found_holds P test (x ∷ xs) all = found_at P test x (find test xs) (test x) refl all.0 (found_holds P test xs all.1)

-- what a row of version 1 reads
abbrev Row : Type 0
Row = record { now : List ℕ } × (Counts × Keyword)

abbrev meant : Version → Line (Keyword × List (List ℕ)) LineFault → Line Meaning ScriptKind
meant number said = line_by (fault_named Unknown Missing Extra) (λ keyword values. ok_or (script_meaning_of keyword number values) BadValue) said

abbrev said_by : Result Keyword LineFault → List (List ℕ) → Line (Keyword × List (List ℕ)) LineFault
said_by answer values = made (λ keyword. Some (keyword, values)) answer

abbrev reads : Version → Option (Counts × Keyword) → List (List ℕ) → Line Meaning ScriptKind
reads number found values = meant number (said_by (counted found (length values)) values)

record Carries (row : Row) : Type 0 where
  same : (values : List (List ℕ)) (m : Option Meaning) → reads First (Some row.1) values ≡ Ok m
      → reads Second (value_named second_rows row.0.now) values ≡ Ok m

same_row : (row : Row) → value_named second_rows row.0.now ≡ Some row.1
    → ((values : List (List ℕ)) → script_meaning_of row.1.1 First values ≡ script_meaning_of row.1.1 Second values) → Carries row
same_row row found equal = grind (arith, common_steps)

wide_line : (name : List ℕ) (keyword : Keyword) → value_named second_rows name ≡ Some (Between 1 2, keyword)
    → ((b : List ℕ) → script_meaning_of keyword First (b ∷ []) ≡ script_meaning_of keyword Second (b ∷ []))
    → (values : List (List ℕ)) (m : Option Meaning)
    → reads First (Some (Exactly 1, keyword)) values ≡ Ok m → reads Second (value_named second_rows name) values ≡ Ok m
wide_line name keyword found equal [] m is = absurd (grind (arith, is))
wide_line name keyword found equal (b ∷ []) m is = rw found (ap (λ m. made Some (ok_or m BadValue)) (sym (equal b)) ∙ is)
wide_line name keyword found equal (b ∷ c ∷ more) m is = grind (arith, common_steps)

wide_row : (name : List ℕ) (keyword : Keyword) → value_named second_rows name ≡ Some (Between 1 2, keyword)
    → ((b : List ℕ) → script_meaning_of keyword First (b ∷ []) ≡ script_meaning_of keyword Second (b ∷ [])) → Carries (record { now = name }, (Exactly 1, keyword))
wide_row name keyword found equal = record { same = wide_line name keyword found equal }

all_carry : AllByRecursion Carries first_rows
unfolding value_named script_meaning_of events_of_line device_of keys_of buttons_of
all_carry = search (same_row, wide_row)

-- version 1 has no line that tells a version
abbrev IsNoVersion : Meaning → Type 0
IsNoVersion version = ⊥
IsNoVersion _ = Unit {0}

none_by : {A : Type 0} (make : A → Meaning) (value : Option A) → ((a : A) → IsNoVersion (make a)) → IfSome (option_map make value) IsNoVersion
none_by make None step = tt
none_by make (Some a) step = step a

none_made : (keyword : Keyword) (values : List (List ℕ)) → IfSome (script_meaning_of keyword First values) IsNoVersion
unfolding script_meaning_of version_of
none_made word.Script values = tt
none_made word.Clock values = none_by clock (clock_of_values values) (λ a. tt)
none_made word.Args values = none_by arguments (texts_of_values values) (λ a. tt)
none_made keyword values = none_by events (events_of_line keyword First values) (λ a. tt)

-- lines that were read without a fault, and what they give
abbrev Gives : Line Meaning ScriptKind → Option Meaning → Type 0
Gives line m = line ≡ Ok m

none_ok : (found : Option Meaning) (m : Option Meaning) → IfSome found IsNoVersion → Gives (made Some (ok_or found BadValue)) m → IfSome m IsNoVersion
none_ok None m none is = absurd (grind (arith, is))
none_ok (Some found) m none is = let same : m ≡ Some found = grind (arith, is) in rw same none

none_read : (answer : Result Keyword LineFault) (values : List (List ℕ)) (m : Option Meaning) → Gives (meant First (said_by answer values)) m → IfSome m IsNoVersion
none_read (Ok keyword) values m is = none_ok (script_meaning_of keyword First values) m (none_made keyword values) is
none_read (Err fault) values m is = absurd (grind (arith, is))

abbrev Lifts : Version → List (List ℕ) → Option Meaning → Type 0
Lifts number words m = (Gives (script_line_of number words) m) × IfSome m IsNoVersion

same_text : (xs ys : List ℕ) → bytes_eq xs ys ≡ true → xs ≡ ys
same_text xs ys is = search (rules, tests)

lift_row : (name : List ℕ) (values : List (List ℕ)) (m : Option Meaning) (found : Option Row) → IfSome found (λ row. Carries row × (bytes_eq row.0.now name ≡ true))
    → Gives (reads First (option_map (λ row. row.1) found) values) m → Gives (reads Second (value_named second_rows name) values) m
lift_row name values m None holds is = absurd (grind (arith, is))
lift_row name values m (Some row) holds is = rw (sym (same_text row.0.now name holds.1)) (holds.0.same values m is)

lift_if : (test : Bool) (name : List ℕ) (values : List (List ℕ)) (m : Option Meaning)
    → Gives (meant First (cond test (Ok None) (said_by (counted (value_named first_rows name) (length values)) values))) m
    → (Gives (meant Second (cond test (Ok None) (said_by (counted (value_named second_rows name) (length values)) values))) m) × IfSome m IsNoVersion
unfolding value_named
lift_if true name values m is = (is, let same : m ≡ None = grind (arith, is) in rw same tt)
lift_if false name values m is = (
  lift_row name values m (find (λ row. bytes_eq row.0.now name) first_rows) (found_holds Carries (λ row. bytes_eq row.0.now name) first_rows all_carry) is,
  none_read (counted (value_named first_rows name) (length values)) values m is,
)

pub lift : (words : List (List ℕ)) (m : Option Meaning) → Gives (script_line_of First words) m → Lifts Second words m
unfolding script_line_of keyword_of rows_of
lift [] m is = (is, let same : m ≡ None = grind (arith, is) in rw same tt)
lift (name ∷ values) m is = lift_if (begins_with 35 name) name values m is

-- lines that version 1 reads, behind a line that tells version 2
abbrev Carried : List (List ℕ) → Type 0
Carried lines = (n k : ℕ) (before all : List Meaning) → given (script_fault First) n before (each_line (script_line_of First) lines) ≡ Ok all → given (script_fault Second) k (version ∷ before) (each_line (script_line_of Second) lines) ≡ Ok (version ∷ all)

carry_fault : (lines : List (List ℕ)) (n k : ℕ) (before all : List Meaning) (m : Meaning) (fault : Option ScriptKind)
    → script_fault First before m ≡ fault → IsNoVersion m → Carried lines
    → given (script_fault First) n before (Ok (Some m) ∷ each_line (script_line_of First) lines) ≡ Ok all
    → given (script_fault Second) k (version ∷ before) (Ok (Some m) ∷ each_line (script_line_of Second) lines) ≡ Ok (version ∷ all)
carry_fault lines n k before all m None is other rest fine = grind (arith, common_steps)
carry_fault lines n k before all m (Some kind) is other rest fine = absurd (let wrong = rw is at fine in grind (arith, wrong))

carry_line : (lines : List (List ℕ)) (words : List (List ℕ)) (read : Line Meaning ScriptKind) → script_line_of First words ≡ read → Carried lines
    → (n k : ℕ) (before all : List Meaning)
    → given (script_fault First) n before (read ∷ each_line (script_line_of First) lines) ≡ Ok all
    → given (script_fault Second) k (version ∷ before) (script_line_of Second words ∷ each_line (script_line_of Second) lines) ≡ Ok (version ∷ all)
carry_line lines words (Err kind) is rest n k before all fine = absurd (grind (arith, fine))
carry_line lines words (Ok None) is rest n k before all fine = rw (lift words None is).0 (rest (n + 1) (k + 1) before all fine)
carry_line lines words (Ok (Some m)) is rest n k before all fine = grind (arith, common_steps, carry_fault, lift)

carried : (lines : List (List ℕ)) → Carried lines
carried [] = λ n k before all fine. let same : before ≡ all = grind (arith, fine) in rw same refl
carried (line ∷ lines) = carry_line lines (words_of line) (script_line_of First (words_of line)) refl (carried lines)

-- the first line, which tells version 2
first_line : script_line_of Second (words_of (codes "script 2")) ≡ Ok (Some version)
unfolding script_line_of keyword_of rows_of value_named script_meaning_of version_of words_of
first_line = refl

tells : (lines : List (List ℕ)) → version_in (codes "script 2" ∷ lines) ≡ Second
unfolding words_of
tells lines = refl

read_is : (number : Version) (answer : Result (List Meaning) (ℕ × ScriptKind)) (script : ScriptView) → made (script_from number) answer ≡ Ok script
    → (all : List Meaning) × (answer ≡ Ok all) × (script ≡ script_from number all)
read_is number (Ok all) script is = (all, refl, grind (arith, is))
read_is number (Err fault) script is = absurd (grind (arith, is))

behind_first : (lines : List (List ℕ)) (number : Version) → number ≡ Second
    → script_by number (codes "script 2" ∷ lines) ≡ made (script_from Second) (given (script_fault Second) 2 (version ∷ []) (each_line (script_line_of Second) lines))
behind_first lines First is = absurd (grind (arith, is))
behind_first lines Second is = rw first_line refl

with_version : (lines : List (List ℕ)) (number : Version) (script : ScriptView) → number ≡ First → script_by number lines ≡ Ok script
    → script_by (version_in (codes "script 2" ∷ lines)) (codes "script 2" ∷ lines) ≡ Ok (record script { version = Second })
with_version lines Second script first is = absurd (grind (arith, first))
with_version lines First script first is = grind (arith, common_steps, behind_first, carried, read_is, tells)

version_is : (number : Version) (answer : Result (List Meaning) (ℕ × ScriptKind)) (script : ScriptView) → made (script_from number) answer ≡ Ok script → number ≡ script.version
version_is number answer script is = let found = read_is number answer script is in rw found.2 refl

no_newline : (i : ℕ) → i < 8 → All (λ byte. is_newline byte ≡ false) (codes "script 2")
no_newline i small = All-from_get_or (λ byte. is_newline byte ≡ false) (codes "script 2") 0 (λ i within. search (rules, tests))

pub second_reads_first : (text : List ℕ) (script : ScriptView) → length text + 9 ≤ TEXT_LIMIT → script_of text ≡ Ok script → script.version ≡ First
    → script_of (codes "script 2" ++ 10 ∷ text) ≡ Ok (record script { version = Second })
unfolding script_of
second_reads_first text script short is first =
    grind (arith, common_steps, no_newline, script_by, short_script, slice_split_at, version_is, with_version)
