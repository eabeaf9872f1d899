-- A rectangle is filled row by row.
use Rattle.std.proofs.Common.{◌≡◌, ℕ, ◌+◌, ◌-◌, ◌*◌, ◌<◌, ◌≤◌, List, ◌++◌, All, length, take, drop, replicate, slice_index, unwrap_or, Some, None, refl, sym, ap, ◌∙◌, arith}
use Rattle.std.proofs.lemmas.List.{get_or-replicate, length-replicate, replicate-append-replicate, take_all}
use Rattle.std.proofs.lemmas.Slice.{take-put_mid}
use Rattle.std.proofs.lemmas.List.Elements.{All-replicate}
use Rattle.std.proofs.lemmas.Bool.Decides.{nat_tests}
use borrow.Rule.Slice.PartMut.{put_mid}
use Rattle.screen_layers.specs.Drawings.{fill, painted, covers}
use Rattle.screen_layers.specs.Layers.{PaintedOver, pixel_at}
use Rattle.screen_layers.proofs.Rows.{row_within, row_order, from_row, before_row}
use Rattle.screen_layers.proofs.Spans.{length-put_mid, length-span, part-painted, span-painted, painted-then, All-put_mid}

-- no row of an empty rectangle is filled
pub fill-none : (pixels : List ℕ) (width height left right top colour : ℕ) → PaintedOver pixels pixels width height (painted (fill left right top top colour))
unfolding painted covers
fill-none pixels width height left right top colour = record { count = refl; pixels = λ x y in_x in_y. grind (arith, nat_tests) }

fill-hit : (left right top bottom colour x y : ℕ) → left ≤ x → x < right → top ≤ y → y < bottom → painted (fill left right top bottom colour) x y ≡ Some colour
unfolding painted covers
fill-hit left right top bottom colour x y a b c d = grind (arith, nat_tests)

fill-miss : (left right top bottom colour x y : ℕ) → (left ≤ x → x < right → top ≤ y → y < bottom → ⊥) → painted (fill left right top bottom colour) x y ≡ None
unfolding painted covers
fill-miss left right top bottom colour x y miss = grind (arith, nat_tests)

fill-joins : (left right top y colour x z was : ℕ) → top ≤ y
    → unwrap_or (painted (fill left right y (y + 1) colour) x z) (unwrap_or (painted (fill left right top y colour) x z) was) ≡ unwrap_or (painted (fill left right top (y + 1) colour) x z) was
unfolding painted covers
fill-joins left right top y colour x z was h = grind (arith, nat_tests)

-- a part that was filled holds the colour
filled-at : (span : List ℕ) (n i colour under : ℕ) → span ≡ replicate n colour → i < n → slice_index span i ≡ unwrap_or (Some colour) under
filled-at span n i colour under filled h = ap (λ ys. slice_index ys i) filled ∙ get_or-replicate n i colour 0 h

-- one more row of it
pub fill-more : (before after span : List ℕ) (width height left right top y colour a k : ℕ) → a + k ≤ length after → left ≤ right → right ≤ width → top ≤ y
    → a ≡ y * width + left → k ≡ right - left → span ≡ replicate (length (take k (drop a after))) colour
    → PaintedOver before after width height (painted (fill left right top y colour))
    → PaintedOver before (put_mid a k after span) width height (painted (fill left right top (y + 1) colour))
fill-more before after span width height left right top y colour a k room ordered right_in top_in a_is k_is filled so_far =
    let span_is : span ≡ replicate k colour = filled ∙ ap (λ n. replicate n colour) (length-span a k after room) in
    painted-then before after _ width height _ (painted (fill left right y (y + 1) colour)) _ so_far
    (span-painted after span width height y left right a k _ room (ap length span_is ∙ length-replicate k colour) ordered right_in a_is k_is
    (λ x low high. filled-at span k (x - left) colour (pixel_at width after x y) span_is (omega arith) ∙ sym (ap (λ o. unwrap_or o (pixel_at width after x y)) (fill-hit left right y (y + 1) colour x y low high (omega arith) (omega arith))))
    (λ x z in_x off. fill-miss left right y (y + 1) colour x z (λ low high from to. let past : right ≤ x = off (omega arith) low in omega arith)))
    (λ x z was in_x in_z. fill-joins left right top y colour x z was top_in)

-- the values stay colours
pub fill-colours : (after span : List ℕ) (colour a k : ℕ) → colour < 4 → span ≡ replicate (length (take k (drop a after))) colour
    → All (λ value. value < 4) after → All (λ value. value < 4) (put_mid a k after span)
fill-colours after span colour a k fits filled each =
    All-put_mid (λ value. value < 4) a k after span each (rw filled (All-replicate (λ value. value < 4) (length (take k (drop a after))) colour fits))

-- whole rows are filled together
pub fill-whole : (pixels span : List ℕ) (width height top bottom colour a k : ℕ) → a + k ≤ length pixels → top ≤ bottom
    → a ≡ top * width → k ≡ bottom * width - top * width → span ≡ replicate (length (take k (drop a pixels))) colour
    → PaintedOver pixels (put_mid a k pixels span) width height (painted (fill 0 width top bottom colour))
fill-whole pixels span width height top bottom colour a k room ordered a_is k_is filled =
    let span_is : span ≡ replicate k colour = filled ∙ ap (λ n. replicate n colour) (length-span a k pixels room) in
    let rows = row_order top bottom width ordered in
    part-painted pixels span width height a k _ room (ap length span_is ∙ length-replicate k colour)
    (λ x y in_x low high. filled-at span k (y * width + x - a) colour (pixel_at width pixels x y) span_is (omega arith) ∙ sym (ap (λ o. unwrap_or o (pixel_at width pixels x y))
    (fill-hit 0 width top bottom colour x y (omega arith) in_x (from_row width y top x in_x (omega arith)) (before_row width y bottom x (omega arith)))))
    (λ x y in_x off. fill-miss 0 width top bottom colour x y (λ _ _ from to. absurd (omega (arith, off, row_order top y width from, row_within y bottom width to))))

-- one more piece of a span is filled
pub filled-more : (span piece : List ℕ) (from k colour : ℕ) → from + k ≤ length span → piece ≡ replicate (length (take k (drop from span))) colour
    → take from span ≡ replicate from colour → take (from + k) (put_mid from k span piece) ≡ replicate (from + k) colour
filled-more span piece from k colour room filled so_far =
    let piece_is : piece ≡ replicate k colour = filled ∙ ap (λ n. replicate n colour) (length-span from k span room) in
    let count : length piece ≡ k = ap length piece_is ∙ length-replicate k colour in
    take-put_mid from k span piece (from + k) (omega arith) (omega arith)
    ∙ ap (λ prefix. prefix ++ piece) so_far ∙ ap (λ back. replicate from colour ++ back) piece_is ∙ replicate-append-replicate from k colour

pub filled-whole : (span piece : List ℕ) (from k colour size : ℕ) → from + k ≡ length span → length span ≡ size → piece ≡ replicate (length (take k (drop from span))) colour
    → take from span ≡ replicate from colour → put_mid from k span piece ≡ replicate size colour
filled-whole span piece from k colour size whole size_is filled so_far =
    let piece_is : piece ≡ replicate k colour = filled ∙ ap (λ n. replicate n colour) (length-span from k span (omega arith)) in
    let count : length piece ≡ k = ap length piece_is ∙ length-replicate k colour in
    sym (take_all (from + k) (put_mid from k span piece) (omega (arith, length-put_mid from k span piece count (omega arith))))
    ∙ filled-more span piece from k colour (omega arith) filled so_far
    ∙ ap (λ n. replicate n colour) (whole ∙ size_is)
