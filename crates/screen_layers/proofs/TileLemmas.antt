-- A tile is painted row by row.
use Rattle.std.proofs.Common.{◌≡◌, Bool, ◌&&◌, ℕ, ◌+◌, ◌*◌, ◌%◌, ◌<◌, ◌≤◌, ◌==◌, List, All, length, take, drop, slice_index, nat_lt, if◌then◌else◌, Option, None, unwrap_or, refl, ap, ◌∙◌, arith}
use Rattle.std.proofs.lemmas.List.{get_or-take, get_or-drop}
use Rattle.std.proofs.lemmas.List.Elements.{All-take, All-drop}
use Rattle.std.proofs.lemmas.Bool.Decides.{nat_tests}
use borrow.Rule.Slice.PartMut.{put_mid}
use Rattle.screen_layers.specs.Drawings.{tile, painted, covers, pixel_distance, row_painted}
use Rattle.screen_layers.specs.Layers.{PaintedOver}
use Rattle.screen_layers.proofs.Spans.{length-span, row-painted, painted-then, All-put_mid}

-- what the first rows of a tile paint
abbrev pub rows_painted : ℕ → ℕ → (ℕ → ℕ → Option ℕ) → ℕ → ℕ → ℕ → Option ℕ
rows_painted at_x at_y inks count x y =
    if nat_lt (pixel_distance at_x x) 8 && nat_lt (pixel_distance at_y y) count then inks (pixel_distance at_x x) (pixel_distance at_y y) else None

pub rows-end : (before after : List ℕ) (width height at_x at_y : ℕ) (inks : ℕ → ℕ → Option ℕ)
    → PaintedOver before after width height (rows_painted at_x at_y inks 8) → PaintedOver before after width height (painted (tile at_x at_y inks))
unfolding painted covers
rows-end before after width height at_x at_y inks all = all

joins : (across : Bool) (paints : ℕ → Option ℕ) (at row y z was : ℕ) → at < 65536 → row < 8 → y ≡ (at + row) % 65536 → z < 65536
    → unwrap_or (if z == y then (if across then paints row else None) else None)
    (unwrap_or (if across && nat_lt (pixel_distance at z) row then paints (pixel_distance at z) else None) was)
    ≡ unwrap_or (if across && nat_lt (pixel_distance at z) (row + 1) then paints (pixel_distance at z) else None) was
joins across paints at row y z was at_in row_in y_is z_in = grind (arith, nat_tests)

-- one more row of it
pub rows-more : (before after span : List ℕ) (width height at_x at_y : ℕ) (inks : ℕ → ℕ → Option ℕ) (row y a k : ℕ)
    → a + k ≤ length after → at_y < 65536 → row < 8 → y ≡ (at_y + row) % 65536 → height < 65536
    → a ≡ y * width → k ≡ width → length span ≡ length (take k (drop a after))
    → ((x : ℕ) → x < length (take k (drop a after)) → slice_index span x ≡ unwrap_or (row_painted at_x (λ column. inks column row) x) (slice_index (take k (drop a after)) x))
    → PaintedOver before after width height (rows_painted at_x at_y inks row)
    → PaintedOver before (put_mid a k after span) width height (rows_painted at_x at_y inks (row + 1))
rows-more before after span width height at_x at_y inks row y a k room at_in row_in y_is height_in a_is k_is same_size drawn so_far =
    painted-then before after _ width height _ _ _ so_far
    (row-painted after span width height y a k _ room (same_size ∙ length-span a k after room) a_is k_is
    (λ x in_x. drawn x (omega (arith, length-span a k after room))
    ∙ ap (λ p. unwrap_or (row_painted at_x (λ column. inks column row) x) p) (get_or-take k (drop a after) x 0 (omega arith) ∙ get_or-drop a after x 0 ∙ ap (λ j. slice_index after (j + x)) a_is)))
    (λ x z was in_x in_z. joins (nat_lt (pixel_distance at_x x) 8) (inks (pixel_distance at_x x)) at_y row y z was at_in row_in y_is (omega arith))

-- a row off the screen paints nothing
pub rows-off : (before after : List ℕ) (width height at_x at_y : ℕ) (inks : ℕ → ℕ → Option ℕ) (row y : ℕ)
    → height < 65536 → at_y < 65536 → row < 8 → y ≡ (at_y + row) % 65536 → height ≤ y
    → PaintedOver before after width height (rows_painted at_x at_y inks row)
    → PaintedOver before after width height (rows_painted at_x at_y inks (row + 1))
rows-off before after width height at_x at_y inks row y height_in at_in row_in y_is off so_far =
    painted-then before after after width height _ (λ x z. None) _ so_far (record { count = refl; pixels = λ x z in_x in_z. refl })
    (λ x z was in_x in_z. skips (nat_lt (pixel_distance at_x x) 8) (inks (pixel_distance at_x x)) z was in_z) where
      skips : (across : Bool) (paints : ℕ → Option ℕ) (z was : ℕ) → z < height
          → unwrap_or (if across && nat_lt (pixel_distance at_y z) row then paints (pixel_distance at_y z) else None) was
          ≡ unwrap_or (if across && nat_lt (pixel_distance at_y z) (row + 1) then paints (pixel_distance at_y z) else None) was
      skips across paints z was in_z = grind (arith, nat_tests)

-- the values stay colours
pub rows-colours : (after span : List ℕ) (a k : ℕ) → (All (λ colour. colour < 4) (take k (drop a after)) → All (λ colour. colour < 4) span)
    → All (λ colour. colour < 4) after → All (λ colour. colour < 4) (put_mid a k after span)
rows-colours after span a k kept each =
    All-put_mid (λ colour. colour < 4) a k after span each
    (kept (All-take (λ colour. colour < 4) k (drop a after) (All-drop (λ colour. colour < 4) a after each)))
