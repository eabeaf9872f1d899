-- Tables of values by their names.
use Rattle.std.specs.Prelude.{ℕ, List, map, Option}
use Rattle.std.specs.Borrow.{Bor}
use Rattle.std.specs.List.{find}
use Rattle.std.specs.Option.{option_map}
use Rattle.std.specs.Str.{bytes_eq}

-- the rows of a table
abbrev pub Named : Type 0 → Type 0
Named V = List (record { now : List ℕ } × V)

-- a row
abbrev pub named : {V : Type 0} → List ℕ → V → record { now : List ℕ } × V
named name value = (record { now = name }, value)

-- the rows that the code looks up
abbrev pub named_row_in : {V : Type 0} → Bor (List ℕ) × V → record { now : List ℕ } × V
named_row_in row = (record { now = row.0.now }, row.1)

abbrev pub named_in : {V : Type 0} → List (Bor (List ℕ) × V) → Named V
named_in table = map named_row_in table

-- the value of a name: that of the first row with it
unfoldable pub value_named : {V : Type 0} → Named V → List ℕ → Option V
value_named rows name = option_map (λ row. row.1) (find (λ row. bytes_eq row.0.now name) rows)
