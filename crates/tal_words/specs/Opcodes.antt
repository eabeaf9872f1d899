-- The names of the opcodes (Uxntal opcode reference; profile: JCI, JMI and JSI are words too).
use Rattle.std.specs.Prelude.{ℕ, ◌+◌, ◌%◌, Bool, true, false, not, ◌&&◌, ◌||◌, ◌==◌, if◌then◌else◌}
use Rattle.std.specs.Prelude.{List, [], ◌∷◌, ◌++◌, map, take, drop, codes, slice_index_or, Option, Some, None, find, unwrap_or}
use Rattle.std.specs.Option.{option_map, option_or}
use Rattle.std.specs.List.{list_any, position_from}
use Rattle.std.specs.Str.{bytes_eq}
use Rattle.uxn_opcodes.specs.declared.operation.Width.{Width}
use Rattle.uxn_opcodes.specs.declared.operation.Width.TheVariants.{Byte, Short}
use Rattle.uxn_opcodes.specs.declared.operation.Mode.{Mode}
use Rattle.uxn_opcodes.specs.Table.{operation_rows, mode_of}

-- the letters of the operations, in order of the low five bits of their bytes
abbrev pub operation_names : List (List ℕ)
operation_names = map (λ row. row.0) operation_rows

-- the modes: `2` is short mode, `r` return mode and `k` keep mode
abbrev pub mode_2 : ℕ
mode_2 = 50

abbrev pub mode_k : ℕ
mode_k = 107

abbrev pub mode_r : ℕ
mode_r = 114

-- a list has this byte
abbrev pub has : ℕ → List ℕ → Bool
has byte bytes = list_any (λ other. other == byte) bytes

abbrev pub is_mode : ℕ → Bool
is_mode byte = byte == mode_2 || byte == mode_k || byte == mode_r

-- each of the bytes is a mode, and none comes twice
abbrev pub are_modes : List ℕ → Bool
are_modes [] = true
are_modes (mode ∷ modes) = is_mode mode && not (has mode modes) && are_modes modes

-- an operation with these modes; LIT always has the bit of keep mode
abbrev pub with_modes : ℕ → List ℕ → ℕ
with_modes operation modes =
    operation
    + (if has mode_2 modes then 32 else 0)
    + (if has mode_r modes then 64 else 0)
    + (if has mode_k modes || operation == 0 then 128 else 0)

-- the byte of an operation's name and modes
abbrev pub moded_byte : Option ℕ → List ℕ → Option ℕ
moded_byte None modes = None
moded_byte (Some operation) modes = if are_modes modes then Some (with_modes operation modes) else None

-- the opcodes whose names have no modes
abbrev pub plain_names : List (ℕ × List ℕ)
plain_names = (0, codes "BRK") ∷ (32, codes "JCI") ∷ (64, codes "JMI") ∷ (96, codes "JSI") ∷ []

-- the byte of an opcode word: such a name, or an operation with modes in any order
unfoldable pub byte_of_op : List ℕ → Option ℕ
byte_of_op word =
    option_or (option_map (λ row. row.0) (find (λ row. bytes_eq word row.1) plain_names))
    (moded_byte (position_from (bytes_eq (take 3 word)) 0 operation_names) (drop 3 word))

-- the letters of a mode, in the order 2, k, r
abbrev pub is_short : Width → Bool
is_short Byte = false
is_short Short = true

abbrev pub mode_letters : Mode → List ℕ
mode_letters mode =
    (if is_short mode.width then mode_2 ∷ [] else [])
    ++ (if mode.keep then mode_k ∷ [] else [])
    ++ (if mode.returns then mode_r ∷ [] else [])

-- the mode that shows in the name of a byte: LIT never shows `k`
abbrev pub shown_mode : ℕ → Mode
shown_mode byte = record (mode_of byte) { keep = not (byte % 32 == 0) && (mode_of byte).keep }

-- the name of each of the 256 bytes: the letters of the row by which the machine runs it, and those of its mode
unfoldable pub name_of_op : ℕ → List ℕ
name_of_op byte =
    unwrap_or (option_map (λ row. row.1) (find (λ row. byte == row.0) plain_names))
    (slice_index_or operation_names (byte % 32) [] ++ mode_letters (shown_mode byte))
