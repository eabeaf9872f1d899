-- What the lines of a text give, or the first faulty line with its fault (profile). A line is validated by itself first: it gives
-- something, or nothing, or has a fault; then what it gives is validated by what the lines before it gave.
use Rattle.std.specs.Prelude.{◌≡◌, ℕ, ◌+◌, Bool, nat_lt, if◌then◌else◌, length}
use Rattle.std.specs.Prelude.{List, [], ◌∷◌, ◌++◌, map, Option, Some, None}
use Rattle.std.specs.Prelude.{Result, Ok, Err}
use Rattle.text_lines.specs.declared.stop.TextStop.{TextStop}
use Rattle.text_lines.specs.declared.stop.TextStop.TheVariants.{Refused, NoMemory}
use Rattle.text_lines.specs.Lines.{lines_of, words_of}

-- a line by itself
abbrev pub Line : Type 0 → Type 0 → Type 0
Line A K = Result (Option A) K

-- what is made of a value, or its fault
abbrev pub made : {A B F : Type 0} → (A → B) → Result A F → Result B F
made make (Ok value) = Ok (make value)
made make (Err kind) = Err kind

-- a fault where the test holds
abbrev pub fault_if : {K : Type 0} → Bool → K → Option K
fault_if test kind = if test then Some kind else None

-- the fault of the line with this number, or else what follows
abbrev pub or_fault : {B K : Type 0} → Option K → ℕ → Result B (ℕ × K) → Result B (ℕ × K)
or_fault None number rest = rest
or_fault (Some kind) number rest = Err (number, kind)

-- what the lines before this number gave, and what these lines give, of which the first has this number
abbrev pub given : {A K : Type 0} → (List A → A → Option K) → ℕ → List A → List (Line A K) → Result (List A) (ℕ × K)
given fault number before [] = Ok before
given fault number before (Err kind ∷ lines) = Err (number, kind)
given fault number before (Ok None ∷ lines) = given fault (number + 1) before lines
given fault number before (Ok (Some a) ∷ lines) = or_fault (fault before a) number (given fault (number + 1) (before ++ a ∷ []) lines)

-- each line by itself, by its words
abbrev pub each_line : {A K : Type 0} → (List (List ℕ) → Line A K) → List (List ℕ) → List (Line A K)
each_line line_of lines = map (λ line. line_of (words_of line)) lines

-- what the lines of a text give, which has at most so many bytes
abbrev pub text_by : {A K : Type 0} → ℕ → K → (List A → A → Option K)
    → (List (List ℕ) → Line A K) → List ℕ → Result (List A) (ℕ × K)
text_by limit long fault line_of text =
    if nat_lt limit (length text) then Err (1, long) else given fault 1 [] (each_line line_of (lines_of text))

-- a text is read as it is defined, unless memory runs out
abbrev pub ReadsText : {A K : Type 0} → Result A (TextStop K) → Result A (ℕ × K) → Type 0
ReadsText (Ok value) defined = defined ≡ Ok value
ReadsText (Err (Refused line kind)) defined = defined ≡ Err (line, kind)
ReadsText (Err NoMemory) defined = Unit {0}

-- what is wrong with a line behind what the lines before it gave
abbrev pub fault_of : {A K : Type 0} → (List A → A → Option K) → List A → Line A K → Option K
fault_of fault before (Err kind) = Some kind
fault_of fault before (Ok None) = None
fault_of fault before (Ok (Some a)) = fault before a

-- the line with this number has this fault, and the lines before it have none; the first line has the number `first`
pub record IsFirstLineFault {A K : Type 0} (fault : List A → A → Option K) (first : ℕ) (so_far : List A) (lines : List (Line A K))
    (number : ℕ) (kind : K) : Type 0 where
  pub prefix : List (Line A K)
  pub line : Line A K
  pub rest : List (Line A K)
  pub before : List A
  pub parts : lines ≡ prefix ++ line ∷ rest
  pub at : number ≡ first + length prefix
  pub faultless : given fault first so_far prefix ≡ Ok before
  pub faulty : fault_of fault before line ≡ Some kind
