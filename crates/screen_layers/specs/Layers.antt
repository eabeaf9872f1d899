-- What a screen keeps, the pictures that it represents, and the rows that are marked.
use Rattle.std.specs.Prelude.{◌≡◌, ℕ, ◌+◌, ◌*◌, ◌<◌, Bool, false, ◌||◌, ◌==◌, if◌then◌else◌, List, length}
use Rattle.std.specs.Prelude.{slice_index, slice_index_or, Option, Some, None, unwrap_or}
use Rattle.screen_frame.specs.Colours.{shown}
use Rattle.screen_layers.specs.declared.control.Layer.{Layer}
use Rattle.screen_layers.specs.declared.control.Layer.TheVariants.{Background, Foreground}
use Rattle.screen_layers.specs.Drawings.{Shape, Drawing, paint, covers_row}
use Rattle.screen_layers.specs.Pictures.{Picture, pixel_of, refreshed, is_marked, marked_rows}

-- the size, the pixels of both layers and the composed values, all in rows of the width, and a mark for each row
pub record Layers : Type 0 where
  pub width : ℕ
  pub height : ℕ
  pub background : List ℕ
  pub foreground : List ℕ
  pub composed : List ℕ
  pub marks : List Bool

-- the value at a place of a list in rows of a width
abbrev pub pixel_at : ℕ → List ℕ → ℕ → ℕ → ℕ
pixel_at width pixels x y = slice_index pixels (y * width + x)

abbrev pub pixels_of : Layers → Layer → List ℕ
pixels_of screen Background = screen.background
pixels_of screen Foreground = screen.foreground

-- whether a row is marked
abbrev pub mark_at : List Bool → ℕ → Bool
mark_at marks y = slice_index_or marks y false

-- a screen represents a picture: it has its size, its pixels and its marks
pub record RepresentsPicture (screen : Layers) (picture : Picture) : Type 0 where
  pub width : screen.width ≡ picture.width
  pub height : screen.height ≡ picture.height
  pub pixels : (layer : Layer) (x y : ℕ) → x < screen.width → y < screen.height
      → pixel_at screen.width (pixels_of screen layer) x y ≡ pixel_of picture.drawings layer x y
  pub marks : (y : ℕ) → y < screen.height → mark_at screen.marks y ≡ is_marked picture y

-- a row has the values that are shown where its two layers lie over each other
abbrev pub IsComposed : Layers → ℕ → Type 0
IsComposed screen y = (x : ℕ) → x < screen.width
    → pixel_at screen.width screen.composed x y
    ≡ shown (pixel_at screen.width screen.foreground x y) (pixel_at screen.width screen.background x y)

-- there is a column, the lists have the screen's size, and each row without a mark is composed
pub record LayersAreMaintained (screen : Layers) : Type 0 where
  pub column : 0 < screen.width
  pub background : length screen.background ≡ screen.height * screen.width
  pub foreground : length screen.foreground ≡ screen.height * screen.width
  pub composed : length screen.composed ≡ screen.height * screen.width
  pub rows : (y : ℕ) → y < screen.height → mark_at screen.marks y ≡ false → IsComposed screen y

-- a list in rows of a width after colours were painted over it, at each place up to the width and a height
pub record PaintedOver (before after : List ℕ) (width height : ℕ) (paint : ℕ → ℕ → Option ℕ) : Type 0 where
  pub count : length after ≡ length before
  pub pixels : (x y : ℕ) → x < width → y < height → pixel_at width after x y ≡ unwrap_or (paint x y) (pixel_at width before x y)

-- the values that are shown where two rows lie over each other, at one row
abbrev pub values_shown : List ℕ → List ℕ → ℕ → ℕ → ℕ → Option ℕ
values_shown foreground background row x y = if y == row then Some (shown (slice_index foreground x) (slice_index background x)) else None

-- the values of one row that are shown where two lists lie over each other
abbrev pub row_shown : ℕ → List ℕ → List ℕ → ℕ → ℕ → ℕ → Option ℕ
row_shown width foreground background row x y =
    if y == row then Some (shown (pixel_at width foreground x row) (pixel_at width background x row)) else None

-- marks once the rows that a shape covers, up to a width and a height, are marked too
abbrev pub MarksMore : List Bool → List Bool → ℕ → ℕ → Shape → Type 0
MarksMore before after width height shape = (y : ℕ) → y < height → mark_at after y ≡ (covers_row shape width y || mark_at before y)

-- a screen after one more drawing: the size and the composed values stay
pub record Draws (before after : Layers) (drawing : Drawing) : Type 0 where
  pub width : after.width ≡ before.width
  pub height : after.height ≡ before.height
  pub composed : after.composed ≡ before.composed
  pub layers : (layer : Layer) → PaintedOver (pixels_of before layer) (pixels_of after layer) before.width before.height (paint drawing layer)
  pub marks : MarksMore before.marks after.marks before.width before.height drawing.shape

-- the size and the pixels of both layers are the same
pub record SamePixels (before after : Layers) : Type 0 where
  pub width : after.width ≡ before.width
  pub height : after.height ≡ before.height
  pub background : after.background ≡ before.background
  pub foreground : after.foreground ≡ before.foreground

-- a refresh counts the marked rows, changes no pixel, and leaves no row marked
pub record Refreshes (before after : Layers) (count : ℕ) : Type 0 where
  pub counted : (picture : Picture) → RepresentsPicture before picture → count ≡ marked_rows picture
  pub pixels : SamePixels before after
  pub stands : (picture : Picture) → RepresentsPicture before picture → RepresentsPicture after (refreshed picture)
