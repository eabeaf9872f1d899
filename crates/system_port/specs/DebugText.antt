-- The debug text: the eight bytes below each pointer (profile).
use Rattle.std.specs.Prelude.{ℕ, ◌%◌, List, [], ◌∷◌, ◌++◌, codes}
use Rattle.std.specs.List.{flat_map}
use Rattle.uxn_io_traits.specs.NumberText.{hex_of_byte}
use Rattle.uxn_stacks.specs.Cells.{Cells, byte_below}

-- the eight bytes below the pointer, the deepest first
unfoldable pub eight_below : Cells → List ℕ
eight_below ring = byte_below ring 7 ∷ byte_below ring 6 ∷ byte_below ring 5 ∷ byte_below ring 4
    ∷ byte_below ring 3 ∷ byte_below ring 2 ∷ byte_below ring 1 ∷ byte_below ring 0 ∷ []

-- a space and two digits
abbrev pub spaced : ℕ → List ℕ
spaced byte = 32 ∷ hex_of_byte byte

-- a name, the bytes, and a newline
unfoldable pub ring_line : List ℕ → Cells → List ℕ
ring_line name ring = name ++ flat_map spaced (eight_below ring) ++ 10 ∷ []

-- a line for the working stack, and one for the return stack
unfoldable pub debug_text_of : Cells → Cells → List ℕ
debug_text_of working returns = ring_line (codes "WST") working ++ ring_line (codes "RST") returns

-- the exit code that a state represents: its low seven bits
abbrev pub exit_code_of : ℕ → ℕ
exit_code_of state = state % 128
