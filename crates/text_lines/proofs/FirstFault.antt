-- The line that is refused is the first faulty one.
use Rattle.std.proofs.lemmas.Grind.{common_steps}
use Rattle.std.proofs.Common.{◌≡◌, ℕ, ◌+◌, List, [], ◌∷◌, ◌++◌, length, Option, Some, None, Result, Ok, Err, refl, arith, ◌∙◌, ap}
use Rattle.text_lines.specs.Reading.{Line, given, fault_of, IsFirstLineFault}

-- the fault of a first line
here : {A K : Type 0} (fault : List A → A → Option K) (n : ℕ) (before : List A) (line : Line A K) (rest : List (Line A K)) (kind : K)
    → fault_of fault before line ≡ Some kind → given fault n before (line ∷ rest) ≡ Err (n, kind)
here fault n before (Err k) rest kind is = grind (arith, is)
here fault n before (Ok None) rest kind is = grind (arith, is)
here fault n before (Ok (Some a)) rest kind is = rw is refl

-- a line without a fault before it
abbrev Behind : {A K : Type 0} → (List A → A → Option K) → ℕ → List A → Line A K → List (Line A K) → ℕ → K → Type 0
Behind fault n before line lines number kind = IsFirstLineFault fault n before (line ∷ lines) number kind

behind : {A K : Type 0} (fault : List A → A → Option K) (n : ℕ) (before after : List A) (line : Line A K) (lines : List (Line A K)) (number : ℕ) (kind : K)
    → ((more : List (Line A K)) → given fault n before (line ∷ more) ≡ given fault (n + 1) after more)
    → IsFirstLineFault fault (n + 1) after lines number kind → Behind fault n before line lines number kind
behind fault n before after line lines number kind step found = record {
  prefix = line ∷ found.prefix;
  line = found.line;
  rest = found.rest;
  before = found.before;
  parts = ap (λ more. line ∷ more) found.parts;
  at = omega (arith, found.at);
  faultless = step found.prefix ∙ found.faultless;
  faulty = found.faulty;
}

at_once : {A K : Type 0} (fault : List A → A → Option K) (n : ℕ) (before : List A) (line : Line A K) (lines : List (Line A K)) (kind : K)
    → fault_of fault before line ≡ Some kind → IsFirstLineFault fault n before (line ∷ lines) n kind
at_once fault n before line lines kind is = record {
  prefix = [];
  line = line;
  rest = lines;
  before = before;
  parts = refl;
  at = omega arith;
  faultless = refl;
  faulty = is;
}

same : {A K : Type 0} (fault : List A → A → Option K) (n number : ℕ) (before : List A) (lines : List (Line A K)) (found kind : K)
    → (answer : Result (List A) (ℕ × K)) → answer ≡ Err (n, found) → answer ≡ Err (number, kind) → IsFirstLineFault fault n before lines n found
    → IsFirstLineFault fault n before lines number kind
same fault n number before lines found kind answer is other first = grind (arith, common_steps)

abbrev Found : {A K : Type 0} → (List A → A → Option K) → ℕ → List A → List (Line A K) → Type 0
Found fault n before lines = (number : _) (kind : _) → given fault n before lines ≡ Err (number, kind) → IsFirstLineFault fault n before lines number kind

by_fault : {A K : Type 0} (fault : List A → A → Option K) (n : ℕ) (before : List A) (a : A) (lines : List (Line A K)) (found : Option K) → fault before a ≡ found
    → Found fault (n + 1) (before ++ a ∷ []) lines → Found fault n before (Ok (Some a) ∷ lines)
by_fault fault n before a lines None is rest = λ number kind refused.
    behind fault n before (before ++ a ∷ []) (Ok (Some a)) lines number kind (λ more. rw is refl) (rest number kind (rw is at refused))
by_fault fault n before a lines (Some k) is rest = λ number kind refused.
    same fault n number before (Ok (Some a) ∷ lines) k kind (given fault n before (Ok (Some a) ∷ lines)) (rw is refl) refused (at_once fault n before (Ok (Some a)) lines k is)

pub refused_first : {A K : Type 0} (fault : List A → A → Option K) (n : ℕ) (before : List A) (lines : List (Line A K)) → Found fault n before lines
refused_first fault n before [] = λ number kind refused. absurd (grind (arith, refused))
refused_first fault n before (Err k ∷ lines) = λ number kind refused.
    same fault n number before (Err k ∷ lines) k kind (given fault n before (Err k ∷ lines)) refl refused (at_once fault n before (Err k) lines k refl)
refused_first fault n before (Ok None ∷ lines) = λ number kind refused.
    behind fault n before before (Ok None) lines number kind (λ more. refl) (refused_first fault (n + 1) before lines number kind refused)
refused_first fault n before (Ok (Some a) ∷ lines) = by_fault fault n before a lines (fault before a) refl (refused_first fault (n + 1) (before ++ a ∷ []) lines)

-- lines without a fault before it change the number and what was given before
abbrev Goes : {A K : Type 0} → (List A → A → Option K) → List (Line A K) → ℕ → List A → Type 0
Goes fault prefix n before = (after : List _) → given fault n before prefix ≡ Ok after → (more : List _) → given fault n before (prefix ++ more) ≡ given fault (n + length prefix) after more

goes_by : {A K : Type 0} (fault : List A → A → Option K) (n : ℕ) (before : List A) (a : A) (prefix : List (Line A K)) (found : Option K) → fault before a ≡ found
    → Goes fault prefix (n + 1) (before ++ a ∷ []) → Goes fault (Ok (Some a) ∷ prefix) n before
goes_by fault n before a prefix None is rest = λ after fine more.
    let count : n + length (Ok (Some a) ∷ prefix) ≡ (n + 1) + length prefix = omega arith in
    rw (is, count) (rest after (rw is at fine) more)
goes_by fault n before a prefix (Some k) is rest = λ after fine more. absurd (let no = rw is at fine in grind (arith, no))

pub goes : {A K : Type 0} (fault : List A → A → Option K) (prefix : List (Line A K)) (n : ℕ) (before : List A) → Goes fault prefix n before
goes fault [] n before = λ after fine more.
    let same : before ≡ after = grind (arith, fine) in
    let count : n + 0 ≡ n = omega arith in
    rw (count, same) refl
goes fault (Err k ∷ prefix) n before = λ after fine more. absurd (grind (arith, fine))
goes fault (Ok None ∷ prefix) n before = λ after fine more.
    let count : n + length (Ok None ∷ prefix) ≡ (n + 1) + length prefix = omega arith in
    rw count (goes fault prefix (n + 1) before after fine more)
goes fault (Ok (Some a) ∷ prefix) n before = goes_by fault n before a prefix (fault before a) refl (goes fault prefix (n + 1) (before ++ a ∷ []))

pub first_refused : {A K : Type 0} (fault : List A → A → Option K) (n : ℕ) (before : List A) (lines : List (Line A K)) (number : ℕ) (kind : K)
    → IsFirstLineFault fault n before lines number kind → given fault n before lines ≡ Err (number, kind)
first_refused fault n before lines number kind first =
    rw (first.parts, first.at) (goes fault first.prefix n before first.before first.faultless (first.line ∷ first.rest)
    ∙ here fault (n + length first.prefix) first.before first.line first.rest kind first.faulty)
