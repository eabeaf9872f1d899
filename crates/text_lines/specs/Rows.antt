-- Tables of the first words of lines (profile): a word, how many values stand behind it, and what it represents.
use Rattle.std.specs.Prelude.{ℕ, false, nat_lt, if◌then◌else◌, List, [], ◌∷◌, length, Option, Some, None, Result, Ok, Err}
use Rattle.std.specs.Option.{option_map_or}
use Rattle.text_lines.specs.Named.{Named, value_named}
use Rattle.text_lines.specs.Numbers.{begins_with}
use Rattle.text_lines.specs.Reading.{Line, made}
use Rattle.text_lines.specs.declared.row.Counts.{Counts}
use Rattle.text_lines.specs.declared.row.Counts.TheVariants.{Exactly, Between, AtLeast}
use Rattle.text_lines.specs.declared.row.LineFault.{LineFault}
use Rattle.text_lines.specs.declared.row.LineFault.TheVariants.{Unknown, Missing, Extra}

-- the rows of a table: for each first word how many values stand behind it, and what it represents
abbrev pub Rows : Type 0 → Type 0
Rows K = Named (Counts × K)

-- the fewest values of a line, and the most, if there is a limit
abbrev pub count_limits : Counts → ℕ × Option ℕ
count_limits (Exactly count) = (count, Some count)
count_limits (Between least most) = (least, Some most)
count_limits (AtLeast least) = (least, None)

-- the keyword of a row that takes as many values
abbrev pub with_count : {K : Type 0} → Counts × K → ℕ → Result K LineFault
with_count row count =
    if nat_lt count (count_limits row.0).0 then Err Missing
    else if option_map_or (λ most. nat_lt most count) (count_limits row.0).1 false then Err Extra
    else Ok row.1

abbrev pub counted : {K : Type 0} → Option (Counts × K) → ℕ → Result K LineFault
counted None count = Err Unknown
counted (Some row) count = with_count row count

-- the keyword of a line with its values; a line without words or with `#` before its first has none
unfoldable pub keyword_of : {K : Type 0} → Rows K → List (List ℕ) → Line (K × List (List ℕ)) LineFault
keyword_of rows [] = Ok None
keyword_of rows (name ∷ values) =
    if begins_with 35 name then Ok None
    else made (λ keyword. Some (keyword, values)) (counted (value_named rows name) (length values))

-- what a text calls the faults of a line's words: an unknown first word, too few values, and too many
abbrev pub fault_named : {F : Type 0} → F → F → F → LineFault → F
fault_named unknown missing extra Unknown = unknown
fault_named unknown missing extra Missing = missing
fault_named unknown missing extra Extra = extra

-- what a line gives, by what its keyword and values give and by what a fault of its words is
abbrev pub line_by : {K A F : Type 0} → (LineFault → F) → (K → List (List ℕ) → Result A F)
    → Line (K × List (List ℕ)) LineFault → Line A F
line_by kind meaning (Ok None) = Ok None
line_by kind meaning (Ok (Some said)) = made Some (meaning said.0 said.1)
line_by kind meaning (Err fault) = Err (kind fault)
