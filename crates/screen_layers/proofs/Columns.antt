-- What the columns of a row of a tile paint: the first of them, and all eight at once.
use Rattle.std.proofs.Common.{◌≡◌, ℕ, ◌+◌, ◌-◌, ◌<◌, ◌≤◌, inl, inr, List, length, take, drop, slice_index, nat_lt, if◌then◌else◌, Option, None, unwrap_or, sym, ap, ◌∙◌, arith}
use Rattle.std.proofs.lemmas.List.{get_or-take, get_or-drop}
use Rattle.std.proofs.lemmas.Bool.{cases_lt}
use Rattle.std.proofs.lemmas.Bool.Decides.{nat_tests}
use borrow.Rule.Slice.PartMut.{put_mid}
use Rattle.screen_layers.specs.Drawings.{pixel_distance, row_painted}
use Rattle.screen_layers.proofs.Spans.{length-span, put_mid-below, put_mid-within, put_mid-past}

-- a row of pixels after the first columns of a tile's row were painted
abbrev pub ColumnsPainted : List ℕ → List ℕ → ℕ → (ℕ → Option ℕ) → ℕ → Type 0
ColumnsPainted before after corner inks count =
    (k : ℕ) → k < length before → slice_index after k
    ≡ unwrap_or (if nat_lt (pixel_distance corner k) count then inks (pixel_distance corner k) else None) (slice_index before k)

row-hit : (corner : ℕ) (inks : ℕ → Option ℕ) (at column : ℕ) → pixel_distance corner at ≡ column → column < 8 → row_painted corner inks at ≡ inks column
row-hit corner inks at column e h = grind (arith, nat_tests)

row-miss : (corner : ℕ) (inks : ℕ → Option ℕ) (at : ℕ) → 8 ≤ pixel_distance corner at → row_painted corner inks at ≡ None
row-miss corner inks at h = grind (arith, nat_tests)

-- eight pixels that lie on the row, written as one span
pub whole-row : (row span : List ℕ) (corner : ℕ) (inks : ℕ → Option ℕ) (a k : ℕ) → length row ≤ 2047 → corner + 8 ≤ length row → a ≡ corner → k ≡ 8
    → length span ≡ length (take k (drop a row))
    → ((j : ℕ) → j < 8 → slice_index span j ≡ unwrap_or (inks j) (slice_index (take k (drop a row)) j))
    → (i : ℕ) → i < length row → slice_index (put_mid a k row span) i ≡ unwrap_or (row_painted corner inks i) (slice_index row i)
whole-row row span corner inks a k short fits a_is k_is same_size drawn i h =
    let count : length span ≡ k = same_size ∙ length-span a k row (omega arith) in
    let keep = λ (o : Option ℕ). unwrap_or o (slice_index row i) in
    elim (cases_lt i a) [
      | inl low_i ↦ put_mid-below 0 a k row span i (omega arith) low_i ∙ sym (ap keep (row-miss corner inks i (omega arith)))
      | inr high_i ↦ elim (cases_lt i (a + k)) [
        | inl within ↦
            let place : a + (i - a) ≡ i = omega arith in
            put_mid-within 0 a k row span i (omega arith) high_i (omega arith) ∙ drawn (i - a) (omega arith)
            ∙ ap (λ p. unwrap_or (inks (i - a)) p)
            (get_or-take k (drop a row) (i - a) 0 (omega arith) ∙ get_or-drop a row (i - a) 0 ∙ ap (λ j. slice_index row j) place)
            ∙ sym (ap keep (row-hit corner inks i (i - a) (omega arith) (omega arith)))
        | inr past ↦ put_mid-past 0 a k row span i (omega arith) count past ∙ sym (ap keep (row-miss corner inks i (omega arith)))
      ]
    ]
