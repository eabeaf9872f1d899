-- Names of labels and macros, and the names that references look up (Uxntal syntax reference).
use Rattle.std.specs.Prelude.{ℕ, not, ◌||◌, ◌==◌, if◌then◌else◌, List, [], ◌∷◌, ◌++◌, codes, drop, find}
use Rattle.std.specs.Prelude.{Option, Some, None, is_some}
use Rattle.std.specs.List.{take_while}
use Rattle.std.specs.Option.{option_map}
use Rattle.tal_words.specs.declared.fault.FaultKind.{FaultKind}
use Rattle.tal_words.specs.declared.fault.FaultKind.TheVariants.{BadName, NoName}
use Rattle.tal_words.specs.declared.form.Rune.{Rune}
use Rattle.tal_words.specs.declared.form.Rune.TheVariants.{LitRel, RawRel, LitZero, RawZero, LitAbs, RawAbs, Jmi, Jci}
use Rattle.tal_words.specs.Source.{begins}
use Rattle.tal_words.specs.Opcodes.{has, byte_of_op}
use Rattle.tal_words.specs.Digits.{is_byte_number, is_short_number}

-- the characters that no name after `@` or `%` begins with; 34 is `"`
abbrev pub reserved : List ℕ
reserved = 34 ∷ codes "|$#@&,_.-;=!?%~()[]{}/"

-- what is wrong with a name after `@` or `%`
unfoldable pub name_fault : List ℕ → Option FaultKind
name_fault [] = Some NoName
name_fault (first ∷ rest) =
    if has first reserved || is_some (byte_of_op (first ∷ rest)) || is_byte_number (first ∷ rest) || is_short_number (first ∷ rest)
    then Some BadName else None

-- the runes of references: `,` `_` `.` `-` `;` `=` `!` `?`
abbrev pub runes : List (ℕ × Rune)
runes =
    (44, LitRel) ∷ (95, RawRel) ∷ (46, LitZero) ∷ (45, RawZero)
    ∷ (59, LitAbs) ∷ (61, RawAbs) ∷ (33, Jmi) ∷ (63, Jci) ∷ []

abbrev pub rune_of : ℕ → Option Rune
rune_of byte = option_map (λ row. row.1) (find (λ row. byte == row.0) runes)

-- `/` parts a scope from the name in it
abbrev pub slash : ℕ
slash = 47

-- the scope at the start of a source
abbrev pub first_scope : List ℕ
first_scope = codes "RESET"

-- the scope that a label opens: its name up to the first `/`
abbrev pub scope_of : List ℕ → List ℕ
scope_of name = take_while (λ byte. not (byte == slash)) name

-- the full name: `&c` and `/c` stand for c in the scope, and any other name for itself
abbrev pub full_name : List ℕ → List ℕ → List ℕ
full_name scope name = if begins 38 name || begins slash name then scope ++ slash ∷ drop 1 name else name

-- the name of a reference: what stands after its rune, or a bare word itself
abbrev pub name_after_rune : List ℕ → List ℕ
name_after_rune [] = []
name_after_rune (first ∷ rest) = if is_some (rune_of first) then rest else first ∷ rest
