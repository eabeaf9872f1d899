-- Lines of text.
use Rattle.std.specs.Prelude.{ℕ, List, [], ◌∷◌, ◌++◌}
use Rattle.std.specs.List.{flat_map}
use Rattle.uxn_io_traits.specs.NumberText.{hex_of_byte}

-- lines, each with a newline behind it
abbrev pub text_of_lines : List (List ℕ) → List ℕ
text_of_lines lines = flat_map (λ line. line ++ 10 ∷ []) lines

-- the digits of bytes, two for each
abbrev pub hex_of_bytes : List ℕ → List ℕ
hex_of_bytes bytes = flat_map hex_of_byte bytes

-- the digits of bytes, with a space before them, and nothing where there are none
abbrev pub behind_name : List ℕ → List ℕ
behind_name [] = []
behind_name (byte ∷ bytes) = 32 ∷ hex_of_bytes (byte ∷ bytes)
