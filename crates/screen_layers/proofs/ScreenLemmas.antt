-- What one more drawing does to the pictures that a screen represents, to its marks and to what it keeps composed.
use Rattle.std.proofs.Common.{◌≡◌, ℕ, zero, suc, ◌+◌, ◌*◌, ◌<◌, Bool, false, ◌||◌, List, [], ◌∷◌, length, replicate, slice_index, if◌then◌else◌, unwrap_or, refl, sym, ap, ◌∙◌, subst}
use Rattle.std.proofs.lemmas.Bool.{or_parts}
use Rattle.std.proofs.lemmas.List.{length-replicate}
use Rattle.screen_layers.specs.declared.control.Layer.{Layer}
use Rattle.screen_layers.specs.declared.control.Layer.TheVariants.{Background, Foreground}
use Rattle.screen_layers.specs.Drawings.{Shape, Drawing, painted, paint, same_layer, covers_row, drawn_by_pixel, filled, dotted}
use Rattle.screen_layers.specs.Control.{fills}
use Rattle.screen_layers.specs.Layers.{Layers, RepresentsPicture, MarksMore, LayersAreMaintained, Draws, PaintedOver, mark_at, pixel_at, pixels_of}
use Rattle.screen_layers.specs.Pictures.{Picture, new_picture, with_drawings, after_pixel}
use Rattle.screen_layers.proofs.MarkLemmas.{paint-none, place-off}

-- a screen with other pixels of a layer, and other marks
abbrev pub with_layer : Layers → Layer → List ℕ → List Bool → Layers
with_layer screen side pixels marks = record screen {
  background = if same_layer side Background then pixels else screen.background;
  foreground = if same_layer side Foreground then pixels else screen.foreground;
  marks = marks;
}

-- a drawing on one layer leaves the other
pub drawn : (screen : Layers) (side layer : Layer) (pixels : List ℕ) (marks : List Bool) (shape : Shape) → side ≡ layer
    → PaintedOver (pixels_of screen side) pixels screen.width screen.height (painted shape) → MarksMore screen.marks marks screen.width screen.height shape
    → Draws screen (with_layer screen side pixels marks) (record { layer = layer; shape = shape })
drawn screen side layer pixels marks shape e over more =
    let P : Layer → Type 0 = λ l. Draws screen (with_layer screen side pixels marks) (record { layer = l; shape = shape }) in
    subst P e record { width = refl; height = refl; composed = refl; layers = λ other. on side other over; marks = more } where
      on : (side other : Layer) → PaintedOver (pixels_of screen side) pixels screen.width screen.height (painted shape)
          → PaintedOver (pixels_of screen other) (pixels_of (with_layer screen side pixels marks) other) screen.width screen.height
          (paint (record { layer = side; shape = shape }) other)
      on Background Background over = over
      on Background Foreground over = record { count = refl; pixels = λ x y in_x in_y. refl }
      on Foreground Background over = record { count = refl; pixels = λ x y in_x in_y. refl }
      on Foreground Foreground over = over

-- the picture with the drawing
pub stands-more : (before after : Layers) (drawing : Drawing) (newer : List Drawing) (picture : Picture) → Draws before after drawing
    → RepresentsPicture before (with_drawings newer picture) → RepresentsPicture after (with_drawings (drawing ∷ newer) picture)
stands-more before after drawing newer picture draws stands = record {
  width = draws.width ∙ stands.width;
  height = draws.height ∙ stands.height;
  pixels = λ layer x y in_x in_y.
      let across : x < before.width = rw (← draws.width) in_x in
      let down : y < before.height = rw (← draws.height) in_y in
      ap (λ w. pixel_at w (pixels_of after layer) x y) draws.width ∙ (draws.layers layer).pixels x y across down
      ∙ ap (λ p. unwrap_or (paint drawing layer x y) p) (stands.pixels layer x y across down);
  marks = λ y in_y.
      let down : y < before.height = rw (← draws.height) in_y in
      draws.marks y down ∙ ap (λ mark. covers_row drawing.shape before.width y || mark) (stands.marks y down) ∙ rw stands.width refl;
}

-- a row without a mark stays composed
pub draws-kept : (before after : Layers) (drawing : Drawing) → LayersAreMaintained before → Draws before after drawing → LayersAreMaintained after
draws-kept before after drawing kept draws = record {
  column = rw draws.width kept.column;
  background = (draws.layers Background).count ∙ kept.background ∙ size;
  foreground = (draws.layers Foreground).count ∙ kept.foreground ∙ size;
  composed = ap length draws.composed ∙ kept.composed ∙ size;
  rows = λ y in_y unmarked x in_x.
      let down : y < before.height = rw (← draws.height) in_y in
      let across : x < before.width = rw (← draws.width) in_x in
      let off = or_parts _ _ (sym (draws.marks y down) ∙ unmarked) in
      let same : (layer : Layer) → pixel_at before.width (pixels_of after layer) x y ≡ pixel_at before.width (pixels_of before layer) x y =
      λ layer. (draws.layers layer).pixels x y across down
      ∙ ap (λ o. unwrap_or o (pixel_at before.width (pixels_of before layer) x y)) (paint-none drawing layer x y (place-off drawing.shape before.width x y across off.0)) in
      rw (draws.width, draws.composed, same Foreground, same Background) (kept.rows y down off.1 x across);
} where
  size : before.height * before.width ≡ after.height * after.width
  size = rw (draws.width, draws.height) refl

pub drawn-by : (width height x y control : ℕ) (filling : Bool) → fills control ≡ filling
    → drawn_by_pixel width height x y control ≡ (if filling then filled width height x y control else dotted x y control)
unfolding drawn_by_pixel
drawn-by width height x y control filling e = rw e refl

-- the picture after a write to pixel
pub stands-after : (before after : Layers) (x y control : ℕ) (picture : Picture) → Draws before after (drawn_by_pixel before.width before.height x y control)
    → RepresentsPicture before picture → RepresentsPicture after (after_pixel picture x y control)
stands-after before after x y control picture draws stands =
    let same : drawn_by_pixel before.width before.height x y control ≡ drawn_by_pixel picture.width picture.height x y control = rw (stands.width, stands.height) refl in
    stands-more before after (drawn_by_pixel picture.width picture.height x y control) [] picture (rw same at draws) stands

-- a screen of a size whose values are all 0
abbrev cleared : ℕ → ℕ → List Bool → Layers
cleared width height marks =
    let zeros = replicate (height * width) 0 in
    record { width = width; height = height; background = zeros; foreground = zeros; composed = zeros; marks = marks }

zero-at : (count at : ℕ) → slice_index (replicate count 0) at ≡ 0
zero-at zero at = refl
zero-at (suc count) zero = refl
zero-at (suc count) (suc at) = zero-at count at

pub cleared-kept : (width height : ℕ) (marks : List Bool) → 0 < width → LayersAreMaintained (cleared width height marks)
cleared-kept width height marks some =
    let size = length-replicate (height * width) 0 in
    record { column = some; background = size; foreground = size; composed = size; rows = λ y in_y unmarked x in_x. simp zero-at }

pub cleared-stands : (width height : ℕ) (marks : List Bool) (picture : Picture) → width ≡ picture.width → height ≡ picture.height
    → ((y : ℕ) → mark_at marks y ≡ false)
    → RepresentsPicture (cleared width height marks) (record new_picture { width = picture.width; height = picture.height })
cleared-stands width height marks picture across down none = record {
  width = across;
  height = down;
  pixels = λ layer x y in_x in_y. nothing layer (y * width + x);
  marks = λ y in_y. none y;
} where
  nothing : (layer : Layer) (at : ℕ) → slice_index (pixels_of (cleared width height marks) layer) at ≡ 0
  nothing Background at = zero-at (height * width) at
  nothing Foreground at = zero-at (height * width) at
