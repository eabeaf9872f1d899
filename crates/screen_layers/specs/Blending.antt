-- The colour of a tile's value for each blend (Varvara device reference: sprite blending).
use Rattle.std.specs.Prelude.{ℕ, ◌-◌, ◌^◌, ◌==◌, ◌≡◌, ◌<◌, Bool, ◌&&◌, ◌||◌, if◌then◌else◌}
use Rattle.std.specs.Prelude.{List, [], ◌∷◌, length, map, codes, slice_index, slice_index_or, Option, Some, None}

-- the numbers that the digits of a text represent
abbrev pub digits : List ℕ → List ℕ
digits text = map (λ code. code - 48) text

-- the colours of the values 0 to 3, each for the blends 0 to f
abbrev pub blends : List (List ℕ)
blends =
    digits (codes "0000101122023330") ∷
    digits (codes "0123012301230123") ∷
    digits (codes "1231123112311231") ∷
    digits (codes "2312231223122312") ∷ []

-- the blends at which value 0 draws nothing
abbrev pub is_transparent : ℕ → Bool
is_transparent blend = blend == 0 || blend == 5 || blend == 10 || blend == 15

-- the colour of a value, or nothing where it draws nothing
unfoldable pub ink : ℕ → ℕ → Option ℕ
ink blend value =
    if (value == 0) && is_transparent blend then None else Some (slice_index (slice_index_or blends value []) blend)

-- what is kept of a blend: the colours of its four values, and which bits of the pixel beneath it value 0 keeps: all or none
pub record AreInks (blend : ℕ) (colours : List ℕ) (mask : ℕ) : Type 0 where
  pub low : blend < 16
  pub same : colours ≡ map (λ row. slice_index row blend) blends
  pub kept : mask ≡ (if is_transparent blend then 255 else 0)

-- what is kept of the columns of a tile: the bit of a byte that each shows, the highest first unless they are flipped
pub record AreMasks (flip_x : Bool) (masks : List ℕ) : Type 0 where
  pub count : length masks ≡ 8
  pub same : (column : ℕ) → column < 8 → slice_index masks column ≡ 2 ^ (if flip_x then column else 7 - column)
