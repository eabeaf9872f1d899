-- The pixels of a plane stand behind its lead.
use Rattle.std.proofs.Common.{◌≡◌, ℕ, ◌+◌, ◌-◌, ◌≤◌, List, ◌++◌, length, take, drop, replicate, [], refl, sym, ap, ◌∙◌, arith, length-drop}
use Rattle.std.proofs.lemmas.List.{append-nil, drop-append-le, drop-drop, drop-replicate, drop-take, drop_all, length-take-le, take_all, take_at}
use borrow.Rule.Slice.PartMut.{put_mid}
use Rattle.screen_layers.proofs.Spans.{length-put_mid}

-- how many pixels there are
pub size_behind : (items plane : List ℕ) → drop 48 items ≡ plane → length plane ≡ length items - 48
size_behind items plane view = ap length (sym view) ∙ length-drop 48 items

-- what a vector holds once a part of it is written anew
abbrev pub rewritten : List ℕ → List ℕ → List ℕ → ℕ → ℕ → ℕ → List ℕ
rewritten items now span from k len =
    let whole = put_mid from k now span in
    take len (whole ++ drop (length whole) items)

-- a part of the pixels is written
pub record AreWritten (items now plane span : List ℕ) (from k len : ℕ) : Type 0 where
  pub after : drop 48 (rewritten items now span (48 + from) k len) ≡ put_mid from k plane span
  pub room : 48 ≤ length (rewritten items now span (48 + from) k len)

pub are-written : (items now plane span : List ℕ) (from k len : ℕ) → now ≡ items → drop 48 items ≡ plane → len ≡ length items → 48 + from + k ≤ len
    → length span ≡ k → AreWritten items now plane span from k len
are-written items now plane span from k len same view len_is lead size =
    let long : length now ≡ len = ap length same ∙ omega arith in
    let whole = put_mid (48 + from) k now span in
    let whole_size : length whole ≡ len = length-put_mid (48 + from) k now span size (omega arith) ∙ long in
    let is_whole : rewritten items now span (48 + from) k len ≡ whole = take_at whole (drop (length whole) items) len whole_size in
    record {
      after = ap (λ xs. drop 48 xs) is_whole
          ∙ drop-append-le 48 (take (48 + from) now) (span ++ drop k (drop (48 + from) now)) (omega (arith, length-take-le (48 + from) now (omega arith)))
          ∙ rw (drop-take 48 from now, ← drop-drop from 48 now, same, view) refl;
      room = omega (arith, ap length is_whole, whole_size);
    }

-- the part behind the lead is the pixels
pub before-of : (items now plane : List ℕ) → now ≡ items → drop 48 items ≡ plane → take (length now - 48) (drop 48 now) ≡ plane
before-of items now plane same view =
    take_all (length now - 48) (drop 48 now) (omega (arith, length-drop 48 now)) ∙ ap (λ xs. drop 48 xs) same ∙ view

-- all pixels are written
pub record AllAreWritten (items now plane span : List ℕ) (len : ℕ) : Type 0 where
  pub before : take (length now - 48) (drop 48 now) ≡ plane
  pub after : drop 48 (rewritten items now span 48 (length now - 48) len) ≡ span
  pub room : 48 ≤ length (rewritten items now span 48 (length now - 48) len)

pub all-are-written : (items now plane span : List ℕ) (len : ℕ) → now ≡ items → drop 48 items ≡ plane → len ≡ length items → 48 ≤ len
    → length span ≡ length (take (length now - 48) (drop 48 now)) → AllAreWritten items now plane span len
all-are-written items now plane span len same view len_is lead size =
    let before = before-of items now plane same view in
    let long : length now ≡ len = ap length same ∙ omega arith in
    let count : length plane ≡ length now - 48 = size_behind items plane view ∙ omega arith in
    let written = are-written items now plane span 0 (length now - 48) len same view len_is (omega arith) (size ∙ ap length before ∙ count) in
    record {
      before = before;
      after = written.after ∙ ap (λ rest. span ++ rest) (drop_all (length now - 48) plane (omega arith)) ∙ append-nil span;
      room = written.room;
    }

-- a part of the pixels
pub span-behind : (items now plane : List ℕ) (start from k count : ℕ) → now ≡ items → drop 48 items ≡ plane → from ≡ start → k ≡ count
    → take k (drop (48 + from) now) ≡ take count (drop start plane)
span-behind items now plane start from k count same view f c = rw (same, ← view, f, c, drop-drop start 48 items) refl

-- pixels that are cleared
pub cleared-behind : (count : ℕ) (items was : List ℕ) (size filled : ℕ) → was ≡ [] → items ≡ take size was ++ replicate filled 0 → filled ≡ 48 + count
    → drop 48 items ≡ replicate count 0
cleared-behind count items was size filled none items_are same =
    let rest : 48 + count - 48 ≡ count = omega arith in
    rw (items_are, none, take_all {A = ℕ} size [] (omega arith), same) (drop-replicate 48 (48 + count) 0 ∙ ap (λ n. replicate n 0) rest)
