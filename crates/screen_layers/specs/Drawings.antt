-- What is drawn, and the colour that it paints at a place (Varvara device reference: screen; that a fill takes x and y
-- as unsigned shorts is the profile).
use Rattle.std.specs.Prelude.{ℕ, zero, suc, ◌+◌, ◌-◌, ◌*◌, ◌/◌, ◌%◌, ◌^◌, ◌==◌, nat_lt, nat_le, min}
use Rattle.std.specs.Prelude.{Bool, true, false, ◌&&◌}
use Rattle.std.specs.Prelude.{if◌then◌else◌, List, [], ◌∷◌, slice_index, Option, Some, None}
use Rattle.std.specs.List.{range_with_len, list_any}
use Rattle.screen_layers.specs.declared.control.Layer.{Layer}
use Rattle.screen_layers.specs.declared.control.Layer.TheVariants.{Background, Foreground}
use Rattle.screen_layers.specs.declared.Moved.{Moved}
use Rattle.screen_layers.specs.declared.tile.Look.{Look}
use Rattle.screen_layers.specs.Control.{has_bit, flips_x, flips_y, layer_of, fills, has_two_bits, tile_size, auto_step, side_step}
use Rattle.screen_layers.specs.Blending.{ink}

-- a rectangle from left up to right and from top up to bottom, these two not in it; one place; or a tile: its corner, and
-- the colour at each of its columns and rows that is opaque
pub data Shape : Type 0 where
  fill : (left right top bottom colour : ℕ) → Shape
  dot : (x y colour : ℕ) → Shape
  tile : (x y : ℕ) (inks : ℕ → ℕ → Option ℕ) → Shape

-- a shape on one of the layers
pub record Drawing : Type 0 where
  pub layer : Layer
  pub shape : Shape

-- how far a coordinate lies after a corner, modulo 65536
abbrev pub pixel_distance : ℕ → ℕ → ℕ
pixel_distance corner at = (at + 65536 - corner) % 65536

-- the bit of a byte, 0 being the lowest
abbrev pub bit_of : ℕ → ℕ → ℕ
bit_of byte place = byte / 2 ^ place % 2

-- a bit as a number
abbrev pub bit_number : Bool → ℕ
bit_number bit = if bit then 1 else 0

-- the colour that a row of eight inks paints at a coordinate, if it covers it and is opaque there
abbrev pub row_painted : ℕ → (ℕ → Option ℕ) → ℕ → Option ℕ
row_painted corner inks at = if nat_lt (pixel_distance corner at) 8 then inks (pixel_distance corner at) else None

-- whether a shape covers a place, opaque there or not
unfoldable pub covers : Shape → ℕ → ℕ → Bool
covers (fill left right top bottom colour) x y = (nat_le left x && nat_lt x right) && (nat_le top y && nat_lt y bottom)
covers (dot at_x at_y colour) x y = (x == at_x) && (y == at_y)
covers (tile at_x at_y inks) x y = nat_lt (pixel_distance at_x x) 8 && nat_lt (pixel_distance at_y y) 8

-- the colour of a shape at a place that it covers, if it is opaque there
abbrev pub colour_of : Shape → ℕ → ℕ → Option ℕ
colour_of (fill left right top bottom colour) x y = Some colour
colour_of (dot at_x at_y colour) x y = Some colour
colour_of (tile at_x at_y inks) x y = inks (pixel_distance at_x x) (pixel_distance at_y y)

-- the colour that a shape paints at a place
unfoldable pub painted : Shape → ℕ → ℕ → Option ℕ
painted shape x y = if covers shape x y then colour_of shape x y else None

-- whether a shape covers a place of a row, up to a width
unfoldable pub covers_row : Shape → ℕ → ℕ → Bool
covers_row shape width y = list_any (λ x. covers shape x y) (range_with_len 0 width)

-- whether two layers are one
abbrev pub same_layer : Layer → Layer → Bool
same_layer Background Background = true
same_layer Foreground Foreground = true
same_layer _ _ = false

-- the colour that a drawing paints at a place of a layer, if it does
abbrev pub paint : Drawing → Layer → ℕ → ℕ → Option ℕ
paint drawing layer x y = if same_layer drawing.layer layer then painted drawing.shape x y else None

-- the part of a side that a fill covers: from a place up to the side's end, or up to the place where it is flipped
abbrev pub filled_span : ℕ → ℕ → Bool → ℕ × ℕ
filled_span at size flip = if flip then (0, min at size) else (min at size, size)

-- a fill, by its parts of the width and of the height
abbrev pub filled : ℕ → ℕ → ℕ → ℕ → ℕ → Drawing
filled width height x y control =
    let across = filled_span x width (flips_x control) in
    let down = filled_span y height (flips_y control) in
    record { layer = layer_of control; shape = fill across.0 across.1 down.0 down.1 (control % 4) }

-- one pixel
abbrev pub dotted : ℕ → ℕ → ℕ → Drawing
dotted x y control = record { layer = layer_of control; shape = dot x y (control % 4) }

-- the drawing of a write to pixel, on a screen of this width and height
unfoldable pub drawn_by_pixel : ℕ → ℕ → ℕ → ℕ → ℕ → Drawing
drawn_by_pixel width height x y control = if fills control then filled width height x y control else dotted x y control

-- the next x and y after a write to pixel: a fill advances nothing
abbrev pub moved_by_pixel : ℕ → ℕ → ℕ → ℕ → ℕ × ℕ
moved_by_pixel x y auto control =
    if fills control
    then (x, y)
    else ((x + (if has_bit auto 1 then 1 else 0)) % 65536, (y + (if has_bit auto 2 then 1 else 0)) % 65536)

-- what a sprite's control byte says of each of its tiles
abbrev pub look_of : ℕ → Look
look_of control = record { columns = flips_x control; flip_y = flips_y control; two_bits = has_two_bits control; inks = control % 16 }

-- a byte of the tile at an address of bank 0, which is modulo 65536; past the tile's size it is 0
abbrev pub tile_byte : List ℕ → ℕ → ℕ → ℕ → ℕ
tile_byte memory at size place = if nat_lt place size then slice_index memory ((at + place) % 65536) else 0

-- the place of the low byte that a row shows; the high byte is eight behind it
abbrev pub plane_byte : Bool → ℕ → ℕ
plane_byte flip_y row = if flip_y then 7 - row else row

abbrev pub row_bytes : List ℕ → ℕ → Look → ℕ → ℕ × ℕ
row_bytes memory at look row =
    let byte = tile_byte memory at (tile_size look.two_bits) in
    let place = plane_byte look.flip_y row in
    (byte place, byte (8 + place))

-- the colour at a column, if it is opaque there: its value is the bit of the low byte, plus twice that of the high byte
unfoldable pub column_ink : Look → ℕ × ℕ → ℕ → Option ℕ
column_ink look bytes column =
    let bit = if look.columns then column else 7 - column in
    ink look.inks (bit_of bytes.0 bit + 2 * bit_of bytes.1 bit)

-- a tile at a place, with a look
abbrev pub tile_inks : List ℕ → ℕ → Look → ℕ → ℕ → Option ℕ
tile_inks memory at look column row = column_ink look (row_bytes memory at look row) column

abbrev pub tile_at : List ℕ → Moved → Look → Shape
tile_at memory place look = tile place.x place.y (tile_inks memory place.addr look)

-- how far each tile of a write to sprite stands from the one before: auto 02 steps its x, auto 01 its y and auto 04 its address
abbrev pub tile_step : ℕ → ℕ → Moved
tile_step auto control = record {
  x = auto_step auto 2 (side_step (flips_x control));
  y = auto_step auto 1 (side_step (flips_y control));
  addr = auto_step auto 4 (tile_size (has_two_bits control));
}

-- the place so many steps on, modulo 65536
abbrev pub place_after : Moved → Moved → ℕ → Moved
place_after place step count = record {
  x = (place.x + count * step.x) % 65536;
  y = (place.y + count * step.y) % 65536;
  addr = (place.addr + count * step.addr) % 65536;
}

-- tile i of a write to sprite
unfoldable pub tile_of : List ℕ → ℕ → ℕ → ℕ → ℕ → ℕ → ℕ → Drawing
tile_of memory x y addr auto control i =
    let place = place_after (record { x = x; y = y; addr = addr }) (tile_step auto control) i in
    record { layer = layer_of control; shape = tile_at memory place (look_of control) }

-- the first drawings of a row of them, the newest first
unfoldable pub newest_first : (ℕ → Drawing) → ℕ → List Drawing
newest_first drawing zero = []
newest_first drawing (suc i) = drawing i ∷ newest_first drawing i

-- the drawings of a write to sprite, the newest first: one tile, and as many more as the high nibble of auto says
abbrev pub drawn_by_sprite : List ℕ → ℕ → ℕ → ℕ → ℕ → ℕ → List Drawing
drawn_by_sprite memory x y addr auto control = newest_first (tile_of memory x y addr auto control) (auto / 16 + 1)

-- the next x, y and addr after a write to sprite: auto 01 moves x, auto 02 moves y and auto 04 moves addr past the tiles
abbrev pub moved_by_sprite : ℕ → ℕ → ℕ → ℕ → ℕ → Moved
moved_by_sprite x y addr auto control = record {
  x = (x + auto_step auto 1 (side_step (flips_x control))) % 65536;
  y = (y + auto_step auto 2 (side_step (flips_y control))) % 65536;
  addr = (addr + (auto / 16 + 1) * (tile_step auto control).addr) % 65536;
}
