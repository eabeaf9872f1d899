-- What is shown of a row.
use Rattle.std.proofs.Common.{◌≡◌, ℕ, ◌*◌, ◌<◌, List, length, take, drop, slice_index, refl, ◌∙◌}
use Rattle.std.proofs.lemmas.List.{get_or-take, get_or-drop}
use Rattle.std.proofs.lemmas.List.FromFn.{fill_by_all}
use Rattle.screen_frame.specs.Colours.{shown}
use Rattle.screen_layers.specs.declared.control.Layer.TheVariants.{Background, Foreground}
use Rattle.screen_layers.specs.Layers.{Layers, RepresentsPicture, pixel_at}
use Rattle.screen_layers.specs.Pictures.{Picture, pixel_of, values_of}

pub row-pixel : (pixels : List ℕ) (width x y : ℕ) → x < width → slice_index (take width (drop (y * width) pixels)) x ≡ pixel_at width pixels x y
row-pixel pixels width x y in_x = get_or-take width (drop (y * width) pixels) x 0 in_x ∙ get_or-drop (y * width) pixels x 0

-- the values of a row that is composed are those of the picture
pub row-values : (screen : Layers) (picture : Picture) (values : List ℕ) (y : ℕ) → RepresentsPicture screen picture → y < screen.height → length values ≡ screen.width
    → ((x : ℕ) → x < screen.width → slice_index values x ≡ shown (pixel_at screen.width screen.foreground x y) (pixel_at screen.width screen.background x y))
    → values ≡ values_of picture y
row-values screen picture values y stands in_y size composed =
    fill_by_all (λ x. shown (pixel_of picture.drawings Foreground x y) (pixel_of picture.drawings Background x y)) values picture.width 0 (size ∙ stands.width)
    (λ x h.
    let in_x : x < screen.width = rw stands.width h in
    composed x in_x ∙ rw (stands.pixels Foreground x y in_x in_y, stands.pixels Background x y in_x in_y) refl)
