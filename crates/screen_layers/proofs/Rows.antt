-- Rows of a width in one list.
use Rattle.std.proofs.Common.{ℕ, ◌+◌, ◌*◌, ◌<◌, ◌≤◌, arith}

-- a row ends before each later one begins
pub row_within : (y z w : ℕ) → y < z → y * w + w ≤ z * w
row_within y z w h = grind arith

-- the rows are in order
pub row_order : (y z w : ℕ) → y ≤ z → y * w ≤ z * w
row_order y z w h = grind arith

-- the row of a place
pub from_row : (w y top x : ℕ) → x < w → top * w ≤ y * w + x → top ≤ y
from_row w y top x in_x h = grind (arith, row_within y top w)

pub before_row : (w y bottom x : ℕ) → y * w + x < bottom * w → y < bottom
before_row w y bottom x h = grind (arith, row_order bottom y w)
