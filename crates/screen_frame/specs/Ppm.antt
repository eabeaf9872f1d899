-- A picture file of the kind P6 (the PPM format of Netpbm).
use Rattle.std.specs.Prelude.{ℕ, List, [], ◌++◌, codes, decimal, slice_index_or}
use Rattle.std.specs.List.{flat_map}

-- the head: kind, width, height and the greatest value of a channel
abbrev pub head_bytes : ℕ → ℕ → List ℕ
head_bytes width height = codes "P6\n" ++ decimal width ++ codes " " ++ decimal height ++ codes "\n255\n"

-- the pixels of a row, each as the three bytes of its colour
abbrev pub row_bytes : List (List ℕ) → List ℕ → List ℕ
row_bytes colours row = flat_map (λ value. slice_index_or colours value []) row
