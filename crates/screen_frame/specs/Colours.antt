-- The four colours, and which of two pixels is shown (Varvara device reference: the system's colours, the screen's layers).
use Rattle.std.specs.Prelude.{ℕ, ◌+◌, ◌-◌, ◌*◌, ◌/◌, ◌%◌, ◌^◌, ◌==◌, if◌then◌else◌, List, []}
use Rattle.std.specs.Prelude.{◌∷◌, slice_index}

-- the short at a place of a list of bytes, its high byte first
abbrev pub colour_short : List ℕ → ℕ → ℕ
colour_short bytes at = slice_index bytes at * 256 + slice_index bytes (at + 1)

-- the nibble of a short, 0 being the highest and 3 the lowest
abbrev pub nibble : ℕ → ℕ → ℕ
nibble short place = short / 16 ^ (3 - place) % 16

-- the colour of this number, by the bytes of the ports 08 to 0d: its nibble of each of the three shorts, times 17
abbrev pub colour_of : List ℕ → ℕ → List ℕ
colour_of ports number =
    nibble (colour_short ports 0) number * 17 ∷ nibble (colour_short ports 2) number * 17 ∷ nibble (colour_short ports 4) number * 17 ∷ []

-- the four colours
abbrev pub colours_of : List ℕ → List (List ℕ)
colours_of ports = colour_of ports 0 ∷ colour_of ports 1 ∷ colour_of ports 2 ∷ colour_of ports 3 ∷ []

-- the pixel that is shown where two layers meet: one of the foreground that is not 0 hides the background
abbrev pub shown : ℕ → ℕ → ℕ
shown foreground background = if foreground == 0 then background else foreground
