-- One place is coloured.
use Rattle.std.proofs.Common.{◌≡◌, ℕ, ◌+◌, ◌*◌, ◌<◌, inl, inr, List, length, slice_index, slice_set, Option, unwrap_or, Some, None, sym, ap, ◌∙◌, arith}
use Rattle.std.proofs.lemmas.List.{get_or-set_same, get_or-set_other, length-set}
use Rattle.std.proofs.lemmas.Bool.{cases_eq}
use Rattle.std.proofs.lemmas.Bool.Decides.{nat_tests}
use Rattle.screen_layers.specs.Drawings.{dot, painted, covers}
use Rattle.screen_layers.specs.Layers.{PaintedOver, pixel_at}
use Rattle.screen_layers.proofs.Rows.{row_within}
use Rattle.screen_layers.proofs.Spans.{same_row}

dot-hit : (at_x at_y colour x y : ℕ) → x ≡ at_x → y ≡ at_y → painted (dot at_x at_y colour) x y ≡ Some colour
unfolding painted covers
dot-hit at_x at_y colour x y e f = grind (arith, nat_tests)

dot-miss : (at_x at_y colour x y : ℕ) → (x ≡ at_x → y ≡ at_y → ⊥) → painted (dot at_x at_y colour) x y ≡ None
unfolding painted covers
dot-miss at_x at_y colour x y miss = grind (arith, nat_tests)

pub dot-painted : (pixels : List ℕ) (width height at_x at_y colour place : ℕ) → length pixels ≡ height * width → at_x < width → at_y < height
    → place ≡ at_y * width + at_x → PaintedOver pixels (slice_set pixels place colour) width height (painted (dot at_x at_y colour))
dot-painted pixels width height at_x at_y colour place size in_at down_at place_is = record {
  count = length-set pixels place colour;
  pixels = λ x y in_x in_y.
      let keep = λ (o : Option ℕ). unwrap_or o (pixel_at width pixels x y) in
      elim (cases_eq (y * width + x) place) [
        | inl e ↦
            let row : y ≡ at_y = same_row width at_y y x at_x (at_x + 1) in_x (omega arith) (omega arith) (omega arith) in
            let start : y * width ≡ at_y * width = ap (λ r. r * width) row in
            ap (λ j. slice_index (slice_set pixels place colour) j) e ∙ get_or-set_same pixels place colour 0 (omega (arith, row_within at_y height width down_at))
            ∙ sym (ap keep (dot-hit at_x at_y colour x y (omega arith) row))
        | inr ne ↦
            get_or-set_other pixels place (y * width + x) colour 0 ne
            ∙ sym (ap keep (dot-miss at_x at_y colour x y (λ e f. ne (let row : y * width ≡ at_y * width = ap (λ r. r * width) f in omega arith))))
      ];
}
