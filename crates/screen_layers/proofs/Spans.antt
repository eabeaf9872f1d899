-- What a write to a span of a list leaves at each place.
use Rattle.std.proofs.Common.{◌≡◌, ℕ, ◌+◌, ◌-◌, ◌*◌, ◌<◌, ◌≤◌, ◌==◌, if◌then◌else◌, inl, inr, List, ◌++◌, All, length, take, drop, slice_index, slice_index_or, Option, None, unwrap_or, sym, ap, ◌∙◌, rules, arith, length-append, length-drop}
use Rattle.std.proofs.lemmas.List.{length-take-le, places}
use Rattle.std.proofs.lemmas.List.Elements.{All-append, All-take, All-drop}
use Rattle.std.proofs.lemmas.Bool.{cases_lt}
use Rattle.std.proofs.lemmas.Bool.Decides.{nat_tests}
use borrow.Rule.Slice.PartMut.{put_mid}
use Rattle.screen_layers.specs.Layers.{PaintedOver, pixel_at}
use Rattle.screen_layers.proofs.Rows.{row_within}

pub put_mid-below : {A : Type 0} (d : A) (a k : ℕ) (xs ys : List A) (i : ℕ) → a ≤ length xs → i < a → slice_index_or (put_mid a k xs ys) i d ≡ slice_index_or xs i d
put_mid-below d a k xs ys i room h = search (rules, places)

pub put_mid-within : {A : Type 0} (d : A) (a k : ℕ) (xs ys : List A) (i : ℕ) → a ≤ length xs → a ≤ i → i < a + length ys
    → slice_index_or (put_mid a k xs ys) i d ≡ slice_index_or ys (i - a) d
put_mid-within d a k xs ys i room low high = search (rules, places)

pub put_mid-past : {A : Type 0} (d : A) (a k : ℕ) (xs ys : List A) (i : ℕ) → a ≤ length xs → length ys ≡ k → a + k ≤ i
    → slice_index_or (put_mid a k xs ys) i d ≡ slice_index_or xs i d
put_mid-past d a k xs ys i room size past = search (rules, places)

pub length-put_mid : {A : Type 0} (a k : ℕ) (xs ys : List A) → length ys ≡ k → a + k ≤ length xs → length (put_mid a k xs ys) ≡ length xs
length-put_mid {A = A} a k xs ys size room = omega (arith, length-append {A = A}, length-take-le {A = A}, length-drop {A = A})

-- how long a span is
pub length-span : {A : Type 0} (a k : ℕ) (xs : List A) → a + k ≤ length xs → length (take k (drop a xs)) ≡ k
length-span a k xs room = length-take-le k (drop a xs) (omega (arith, length-drop a xs))

-- a part of a list is written: its places are painted, and no other
pub part-painted : (xs ys : List ℕ) (width height a k : ℕ) (paint : ℕ → ℕ → Option ℕ) → a + k ≤ length xs → length ys ≡ k
    → ((x y : ℕ) → x < width → a ≤ y * width + x → y * width + x < a + k → slice_index ys (y * width + x - a) ≡ unwrap_or (paint x y) (pixel_at width xs x y))
    → ((x y : ℕ) → x < width → (a ≤ y * width + x → a + k ≤ y * width + x) → paint x y ≡ None)
    → PaintedOver xs (put_mid a k xs ys) width height paint
part-painted xs ys width height a k paint room size on off = record {
  count = length-put_mid a k xs ys size room;
  pixels = λ x y in_x in_y.
      let place = y * width + x in
      let keep = λ (o : Option ℕ). unwrap_or o (pixel_at width xs x y) in
      elim (cases_lt place a) [
        | inl low ↦ put_mid-below 0 a k xs ys place (omega arith) low ∙ sym (ap keep (off x y in_x (λ from. absurd (omega arith))))
        | inr from ↦ elim (cases_lt place (a + k)) [
          | inl within ↦ put_mid-within 0 a k xs ys place (omega arith) from (omega arith) ∙ on x y in_x from within
          | inr past ↦ put_mid-past 0 a k xs ys place (omega arith) size past ∙ sym (ap keep (off x y in_x (λ _. past)))
        ]
      ];
}

-- the place of a pixel in a span of a row is on that row
pub same_row : (w y z x left right : ℕ) → x < w → right ≤ w → y * w + left ≤ z * w + x → z * w + x < y * w + right → z ≡ y
same_row w y z x left right in_x right_in low high = grind (arith, row_within z y w, row_within y z w)

-- a span of a row is written
pub span-painted : (xs ys : List ℕ) (width height y left right a k : ℕ) (paint : ℕ → ℕ → Option ℕ) → a + k ≤ length xs → length ys ≡ k
    → left ≤ right → right ≤ width → a ≡ y * width + left → k ≡ right - left
    → ((x : ℕ) → left ≤ x → x < right → slice_index ys (x - left) ≡ unwrap_or (paint x y) (pixel_at width xs x y))
    → ((x z : ℕ) → x < width → (z ≡ y → left ≤ x → right ≤ x) → paint x z ≡ None)
    → PaintedOver xs (put_mid a k xs ys) width height paint
span-painted xs ys width height y left right a k paint room size ordered within a_is k_is on off =
    part-painted xs ys width height a k paint room size
    (λ x z in_x low high.
    let row : z ≡ y = same_row width y z x left right in_x within (omega arith) (omega arith) in
    let start : z * width ≡ y * width = ap (λ r. r * width) row in
    let place : z * width + x - a ≡ x - left = omega arith in
    rw (place, row) (on x (omega arith) (omega arith)))
    (λ x z in_x past. off x z in_x (λ row from. let start : z * width ≡ y * width = ap (λ r. r * width) row in omega arith))

-- a whole row is written
pub row-painted : (xs ys : List ℕ) (width height y a k : ℕ) (paints : ℕ → Option ℕ) → a + k ≤ length xs → length ys ≡ k → a ≡ y * width → k ≡ width
    → ((x : ℕ) → x < width → slice_index ys x ≡ unwrap_or (paints x) (pixel_at width xs x y))
    → PaintedOver xs (put_mid a k xs ys) width height (λ x z. if z == y then paints x else None)
row-painted xs ys width height y a k paints room size a_is k_is on =
    span-painted xs ys width height y 0 width a k _ room size (omega arith) (omega arith) (omega arith) (omega arith)
    (λ x from in_x. let same : x - 0 ≡ x = omega arith in rw same (on x in_x ∙ here (paints x) (pixel_at width xs x y)))
    (λ x z in_x off. there (paints x) z (λ e. let past : width ≤ x = off e (omega arith) in omega arith)) where
      here : (o : Option ℕ) (under : ℕ) → unwrap_or o under ≡ unwrap_or (if y == y then o else None) under
      here o under = grind (arith, nat_tests)

      there : (o : Option ℕ) (z : ℕ) → (z ≡ y → ⊥) → (if z == y then o else None) ≡ None
      there o z ne = grind (arith, nat_tests)

-- one painting after another
pub painted-then : (before after last : List ℕ) (width height : ℕ) (first next both : ℕ → ℕ → Option ℕ) → PaintedOver before after width height first
    → PaintedOver after last width height next
    → ((x y was : ℕ) → x < width → y < height → unwrap_or (next x y) (unwrap_or (first x y) was) ≡ unwrap_or (both x y) was)
    → PaintedOver before last width height both
painted-then before after last width height first next both one two join = record {
  count = two.count ∙ one.count;
  pixels = λ x y in_x in_y. two.pixels x y in_x in_y ∙ ap (λ p. unwrap_or (next x y) p) (one.pixels x y in_x in_y) ∙ join x y (pixel_at width before x y) in_x in_y;
}

-- what each element of a list and of the span meets, each element meets after the write
pub All-put_mid : (P : ℕ → Type 0) (a k : ℕ) (xs ys : List ℕ) → All P xs → All P ys → All P (put_mid a k xs ys)
All-put_mid P a k xs ys each new =
    All-append P (take a xs) (ys ++ drop k (drop a xs)) (All-take P a xs each)
    (All-append P ys (drop k (drop a xs)) new (All-drop P k (drop a xs) (All-drop P a xs each)))
