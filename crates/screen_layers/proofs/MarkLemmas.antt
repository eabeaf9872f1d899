-- What a shape covers, and the rows that are marked with it.
use Rattle.std.proofs.Common.{◌≡◌, cond, ◌⊎◌, ℕ, zero, suc, ◌+◌, ◌<◌, ◌≤◌, Bool, true, false, ◌&&◌, ◌||◌, ◌==◌, nat_le, nat_lt, List, replicate, Option, None, unwrap_or, inl, inr, refl, sym, ap, arith}
use Rattle.std.specs.List.{range_with_len, list_any}
use Rattle.std.proofs.lemmas.Bool.{and_right, both_ways, false_from_ne_true, or_right, cases_lt, cases_eq}
use Rattle.std.proofs.lemmas.Bool.Decides.{nat_tests}
use Rattle.std.proofs.lemmas.List.{get_or-replicate, length-replicate, get_or_past}
use Rattle.screen_layers.specs.declared.control.Layer.{Layer}
use Rattle.screen_layers.specs.Drawings.{Shape, Drawing, fill, dot, tile, painted, paint, same_layer, covers, covers_row, pixel_distance}
use Rattle.screen_layers.specs.Layers.{Layers, Draws, pixel_at, pixels_of, mark_at}

-- no number of a range passes a test, and one does
none-passes : (test : ℕ → Bool) (from count : ℕ) → ((x : ℕ) → x < from + count → test x ≡ false) → list_any test (range_with_len from count) ≡ false
none-passes test from zero off = refl
none-passes test from (suc count) off = rw (off from (omega arith)) (none-passes test (from + 1) count (λ x below. off x (omega arith)))

one-passes : (test : ℕ → Bool) (from count at : ℕ) → from ≤ at → at < from + count → test at ≡ true → list_any test (range_with_len from count) ≡ true
one-passes test from zero at low high e = absurd (omega arith)
one-passes test from (suc count) at low high e =
    elim (cases_eq from at) [
      | inl here ↦ rw (here, e) refl
      | inr ne ↦ or_right (test from) _ (one-passes test (from + 1) count at (omega arith) (omega arith) e)
    ]

row-off : (shape : Shape) (width y : ℕ) → ((x : ℕ) → x < width → covers shape x y ≡ false) → covers_row shape width y ≡ false
unfolding covers_row
row-off shape width y off = none-passes (λ x. covers shape x y) 0 width (λ x below. off x (omega arith))

pub place-off : (shape : Shape) (width x y : ℕ) → x < width → covers_row shape width y ≡ false → covers shape x y ≡ false
unfolding covers_row
place-off shape width x y in_x off = false_from_ne_true _ (λ e. both_ways _ off (one-passes (λ x. covers shape x y) 0 width x (omega arith) (omega arith) e))

-- some column is covered, so a row is where its test holds
row-by : (across : ℕ → Bool) (down : Bool) (width at : ℕ) → at < width → across at ≡ true → list_any (λ x. across x && down) (range_with_len 0 width) ≡ down
row-by across true width at in_x e = one-passes (λ x. across x && true) 0 width at (omega arith) (omega arith) (rw e refl)
row-by across false width at in_x e = none-passes (λ x. across x && false) 0 width (λ x _. and_right (across x) false refl)

pub fill_row : (width left right top bottom colour y : ℕ) → left < right → right ≤ width
    → covers_row (fill left right top bottom colour) width y ≡ (nat_le top y && nat_lt y bottom)
unfolding covers covers_row
fill_row width left right top bottom colour y some within =
    row-by (λ x. nat_le left x && nat_lt x right) (nat_le top y && nat_lt y bottom) width left (omega arith) (grind (arith, nat_tests))

pub fill_off : (width left right top bottom colour y : ℕ) → right ≤ left → covers_row (fill left right top bottom colour) width y ≡ false
unfolding covers covers_row
fill_off width left right top bottom colour y none = row-off (fill left right top bottom colour) width y (λ x _. grind (arith, nat_tests))

pub dot_row : (width at_x at_y colour y : ℕ) → at_x < width → covers_row (dot at_x at_y colour) width y ≡ (y == at_y)
unfolding covers covers_row
dot_row width at_x at_y colour y within = row-by (λ x. x == at_x) (y == at_y) width at_x within (grind (arith, nat_tests))

-- a tile's first column is on the screen, or its columns wrap to the left side
pub tile_row : (width at_x at_y : ℕ) (inks : ℕ → ℕ → Option ℕ) (y : ℕ) → 0 < width → at_x < 65536 → (at_x < width) ⊎ (65528 < at_x)
    → covers_row (tile at_x at_y inks) width y ≡ nat_lt (pixel_distance at_y y) 8
unfolding covers covers_row
tile_row width at_x at_y inks y some short on =
    let by = row-by (λ x. nat_lt (pixel_distance at_x x) 8) (nat_lt (pixel_distance at_y y) 8) width in
    elim on [ inl first ↦ by at_x first (grind (arith, nat_tests)) | inr wraps ↦ by 0 some (grind (arith, nat_tests)) ]

-- a drawing paints nothing where its shape does not cover
pub paint-none : (drawing : Drawing) (layer : Layer) (x y : ℕ) → covers drawing.shape x y ≡ false → paint drawing layer x y ≡ None
unfolding painted
paint-none drawing layer x y e = rw e (none (same_layer drawing.layer layer)) where
  none : (same : Bool) → cond {A = Option ℕ} same None None ≡ None
  none true = refl
  none false = refl

-- what covers no place on the screen draws nothing and marks nothing
pub draws-nothing : (screen : Layers) (drawing : Drawing) → ((x y : ℕ) → x < screen.width → y < screen.height → covers drawing.shape x y ≡ false)
    → Draws screen screen drawing
draws-nothing screen drawing off = record {
  width = refl;
  height = refl;
  composed = refl;
  layers = λ layer. record {
    count = refl;
    pixels = λ x y in_x in_y. sym (ap (λ o. unwrap_or o (pixel_at screen.width (pixels_of screen layer) x y)) (paint-none drawing layer x y (off x y in_x in_y)));
  };
  marks = λ y in_y. ap (λ t. t || mark_at screen.marks y) (sym (row-off drawing.shape screen.width y (λ x in_x. off x y in_x in_y)));
}

pub dot-off : (at_x at_y colour x y width height : ℕ) → x < width → y < height → (at_x < width → at_y < height → ⊥) → covers (dot at_x at_y colour) x y ≡ false
unfolding covers
dot-off at_x at_y colour x y width height in_x in_y off = grind (arith, nat_tests)

pub tile-off : (at_x at_y : ℕ) (inks : ℕ → ℕ → Option ℕ) (x y width : ℕ) → x < width → width ≤ at_x → at_x ≤ 65528 → covers (tile at_x at_y inks) x y ≡ false
unfolding covers
tile-off at_x at_y inks x y width in_x past low = grind (arith, nat_tests)

-- the marks after those of the first rows of a tile that lie above a height were set
abbrev pub TileMarked : List Bool → List Bool → ℕ → ℕ → ℕ → Type 0
TileMarked before after at_y height count = (y : ℕ) → y < height → mark_at after y ≡ (nat_lt (pixel_distance at_y y) count || mark_at before y)

pub none-marked : (count y : ℕ) → mark_at (replicate count false) y ≡ false
none-marked count y = elim (cases_lt y count) [
  | inl within ↦ get_or-replicate count y false false within
  | inr past ↦ get_or_past (replicate count false) y false (omega (arith, length-replicate count false))
]
