-- A refresh, row by row.
use Rattle.std.proofs.Common.{◌≡◌, ℕ, zero, suc, ◌+◌, ◌<◌, ◌≤◌, ◌==◌, ◌⊎◌, inl, inr, nat_lt, Bool, true, false, cond, if◌then◌else◌, refl, sym, ap, ◌∙◌, subst, arith}
use Rattle.std.specs.Prelude.{count_by}
use Rattle.std.specs.List.{range_with_len}
use Rattle.std.proofs.lemmas.Bool.{cases_eq, le-ltb}
use Rattle.std.proofs.lemmas.Bool.Decides.{nat_tests}
use Rattle.std.proofs.lemmas.List.{map-id}
use Rattle.std.proofs.lemmas.List.FromFn.{sum_by-map-range_with_len_more}
use Rattle.screen_layers.specs.declared.control.Layer.{Layer}
use Rattle.screen_layers.specs.declared.control.Layer.TheVariants.{Background, Foreground}
use Rattle.screen_layers.specs.Layers.{Layers, SamePixels, Refreshes, RepresentsPicture, pixel_at, pixels_of, mark_at}
use Rattle.screen_layers.specs.Pictures.{Picture, refreshed, is_marked, marked_rows}

-- how many numbers below another pass a test
count-next : (test : ℕ → Bool) (count : ℕ) → count_by test (range_with_len 0 (count + 1)) ≡ count_by test (range_with_len 0 count) + cond (test count) 1 0
count-next test count =
    ap (count_by test) (sym (map-id (range_with_len 0 (count + 1))))
    ∙ sum_by-map-range_with_len_more (λ x. cond (test x) 1 0) (λ x. x) 0 count count (omega arith)
    ∙ ap (λ xs. count_by test xs + cond (test count) 1 0) (map-id (range_with_len 0 count))

count-same : (test other : ℕ → Bool) (count : ℕ) → ((x : ℕ) → x < count → test x ≡ other x)
    → count_by test (range_with_len 0 count) ≡ count_by other (range_with_len 0 count)
count-same test other zero same = refl
count-same test other (suc count) same =
    let next : count + 1 ≡ suc count = omega arith in
    let P : ℕ → Type 0 = λ n. count_by test (range_with_len 0 n) ≡ count_by other (range_with_len 0 n) in
    subst P next (rw (count-next test count, count-next other count, count-same test other count (λ x below. same x (omega arith)), same count (omega arith)) refl)

-- the first rows of a screen are refreshed
pub record Refreshed (start now : Layers) (y count : ℕ) : Type 0 where
  pub same : SamePixels start now
  pub marks : (other : ℕ) → mark_at now.marks other ≡ (if nat_lt other y then false else mark_at start.marks other)
  pub counted : count ≡ count_by (mark_at start.marks) (range_with_len 0 y)
  pub most : count ≤ y

marks-next : (y other : ℕ) (mark : Bool) → (if other == y then false else (if nat_lt other y then false else mark)) ≡ (if nat_lt other (y + 1) then false else mark)
marks-next y other mark = grind (arith, nat_tests)

-- one more row, which was marked or not
pub refreshed-more : (start now after : Layers) (y count : ℕ) (marked : Bool) → Refreshed start now y count → mark_at now.marks y ≡ marked → SamePixels now after
    → ((other : ℕ) → mark_at after.marks other ≡ (if other == y then false else mark_at now.marks other)) → Refreshed start after (y + 1) (count + cond marked 1 0)
refreshed-more start now after y count marked so_far was same marks = record {
  same = record {
    width = same.width ∙ so_far.same.width;
    height = same.height ∙ so_far.same.height;
    background = same.background ∙ so_far.same.background;
    foreground = same.foreground ∙ so_far.same.foreground;
  };
  marks = λ other. marks other ∙ rw (so_far.marks other) (marks-next y other (mark_at start.marks other));
  counted = rw (count-next (mark_at start.marks) y, sym (rw (le-ltb y y (omega arith)) at (so_far.marks y)) ∙ was, ← so_far.counted) refl;
  most = no-more marked;
} where
  no-more : (here : Bool) → count + cond here 1 0 ≤ y + 1
  no-more true = omega (arith, so_far.most)
  no-more false = omega (arith, so_far.most)

pub refreshed-plain : (start now : Layers) (y count : ℕ) → Refreshed start now y count → mark_at now.marks y ≡ false → Refreshed start now (y + 1) count
refreshed-plain start now y count so_far was =
    let none : count + 0 ≡ count = omega arith in
    rw none at (refreshed-more start now now y count false so_far was (record { width = refl; height = refl; background = refl; foreground = refl }) (λ other. still other (cases_eq other y))) where
      still : (other : ℕ) → (other ≡ y) ⊎ (other ≡ y → ⊥) → mark_at now.marks other ≡ (if other == y then false else mark_at now.marks other)
      still other (inl e) = rw (e, was) (grind (arith, nat_tests))
      still other (inr ne) = grind (arith, nat_tests)

-- a screen of the same pixels, none of whose rows is marked
refreshed-stands : (before after : Layers) (picture : Picture) → SamePixels before after → ((y : ℕ) → y < before.height → mark_at after.marks y ≡ false)
    → RepresentsPicture before picture → RepresentsPicture after (refreshed picture)
refreshed-stands before after picture same unmarked stands = record {
  width = same.width ∙ stands.width;
  height = same.height ∙ stands.height;
  pixels = λ layer x y in_x in_y. rw same.width (ap (λ pixels. pixel_at before.width pixels x y) (layer-same layer)
      ∙ stands.pixels layer x y (rw (← same.width) in_x) (rw (← same.height) in_y));
  marks = λ y in_y. unmarked y (rw (← same.height) in_y);
} where
  layer-same : (layer : Layer) → pixels_of after layer ≡ pixels_of before layer
  layer-same Background = same.background
  layer-same Foreground = same.foreground

-- the rows that are marked are those of the picture
marks-counted : (start : Layers) (picture : Picture) → RepresentsPicture start picture → count_by (mark_at start.marks) (range_with_len 0 start.height) ≡ marked_rows picture
unfolding marked_rows
marks-counted start picture stands =
    count-same (mark_at start.marks) (is_marked picture) start.height stands.marks ∙ ap (λ h. count_by (is_marked picture) (range_with_len 0 h)) stands.height

-- all rows are refreshed
pub refreshed-all : (start now : Layers) (y count : ℕ) → Refreshed start now y count → y ≡ start.height → Refreshes start now count
refreshed-all start now y count rows whole = record {
  counted = λ picture stands. rows.counted ∙ ap (λ n. count_by (mark_at start.marks) (range_with_len 0 n)) whole ∙ marks-counted start picture stands;
  pixels = rows.same;
  stands = λ picture stands. refreshed-stands start now picture rows.same (λ other below. rows.marks other ∙ (let low : other < y = rw whole below in grind (arith, nat_tests))) stands;
}
