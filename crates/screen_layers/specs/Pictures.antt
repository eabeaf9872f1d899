-- A picture is a size and what was drawn since the screen had it (Varvara device reference: screen).
use Rattle.std.specs.Prelude.{ℕ, ◌==◌, nat_le, Bool, not, ◌&&◌, if◌then◌else◌, List, [], ◌∷◌, ◌++◌, map}
use Rattle.std.specs.Prelude.{unwrap_or, count_by}
use Rattle.std.specs.List.{range_with_len, list_any}
use Rattle.screen_frame.specs.Colours.{shown}
use Rattle.screen_frame.specs.Ppm.{row_bytes}
use Rattle.screen_layers.specs.declared.control.Layer.{Layer}
use Rattle.screen_layers.specs.declared.control.Layer.TheVariants.{Background, Foreground}
use Rattle.screen_layers.specs.Drawings.{Drawing, paint, covers_row, drawn_by_pixel, drawn_by_sprite}

-- the size, the drawings since the last resize that succeeded, and those since the last refresh or such a resize, whichever is later;
-- both lists have the newest first, and what lies off the screen is never shown
pub record Picture : Type 0 where
  pub width : ℕ
  pub height : ℕ
  pub drawings : List Drawing
  pub unrefreshed : List Drawing

-- a new screen's picture
abbrev pub new_picture : Picture
new_picture = record { width = 512; height = 320; drawings = []; unrefreshed = [] }

-- a picture with newer drawings
abbrev pub with_drawings : List Drawing → Picture → Picture
with_drawings newer picture = record picture { drawings = newer ++ picture.drawings; unrefreshed = newer ++ picture.unrefreshed }

-- the picture after a write to pixel
abbrev pub after_pixel : Picture → ℕ → ℕ → ℕ → Picture
after_pixel picture x y control = with_drawings (drawn_by_pixel picture.width picture.height x y control ∷ []) picture

-- the picture after a write to sprite
abbrev pub after_sprite : Picture → List ℕ → ℕ → ℕ → ℕ → ℕ → ℕ → Picture
after_sprite picture memory x y addr auto control = with_drawings (drawn_by_sprite memory x y addr auto control) picture

-- a layer's pixel: the colour of the newest drawing that paints there, else 0
abbrev pub pixel_of : List Drawing → Layer → ℕ → ℕ → ℕ
pixel_of [] layer x y = 0
pixel_of (newest ∷ older) layer x y = unwrap_or (paint newest layer x y) (pixel_of older layer x y)

-- whether a picture's size may become this one: each way 8 to 2047, and not the present size
abbrev pub can_resize : ℕ → ℕ → ℕ → ℕ → Bool
can_resize width height new_width new_height =
    (nat_le 8 new_width && nat_le new_width 2047) && (nat_le 8 new_height && nat_le new_height 2047)
    && not (new_width == width && new_height == height)

-- a picture once a size was requested: both layers are 0 where it was had
abbrev pub resized : Picture → ℕ → ℕ → Picture
resized picture width height =
    if can_resize picture.width picture.height width height then record new_picture { width = width; height = height } else picture

-- a picture after a refresh
abbrev pub refreshed : Picture → Picture
refreshed picture = record picture { unrefreshed = [] }

-- whether a row is marked: a drawing since the last refresh or resize covers a place of it on the screen, opaque there or not
abbrev pub is_marked : Picture → ℕ → Bool
is_marked picture y = list_any (λ drawing. covers_row drawing.shape picture.width y) picture.unrefreshed

-- how many rows of the screen are marked
unfoldable pub marked_rows : Picture → ℕ
marked_rows picture = count_by (is_marked picture) (range_with_len 0 picture.height)

-- the values that a row shows, from left to right
abbrev pub values_of : Picture → ℕ → List ℕ
values_of picture y =
    map (λ x. shown (pixel_of picture.drawings Foreground x y) (pixel_of picture.drawings Background x y)) (range_with_len 0 picture.width)

-- the bytes of a row of the picture file, with these colours
abbrev pub picture_row_of : List (List ℕ) → Picture → ℕ → List ℕ
picture_row_of colours picture y = row_bytes colours (values_of picture y)
