-- Laws of banks: what a change does to bank 0, and which bytes a fill or a copy leaves alone.
use Rattle.std.specs.Prelude.{◌≡◌, ◌≢◌, ℕ, zero, suc, ◌+◌, ◌-◌, ◌/◌, ◌%◌, ◌<◌, ◌≤◌, true, false, refl}
use Rattle.std.specs.Prelude.{List, ◌++◌, length, take, drop, slice_index, slice_set}
use Rattle.std.proofs.Common.{true≢false, ap, sym, ◌∙◌, arith}
use Rattle.std.proofs.Math.Seq.{take-append-add, take-set-lt}
use Rattle.std.proofs.lemmas.Bool.Decides.{nat_tests}
use Rattle.std.proofs.lemmas.List.{drop-take, get_or-set_other, get_or-take, length-append, length-take-le, take-set-le, take-take}
use Rattle.uxn_memory.specs.Bytes.{bank0, bank_place, in_run, copied, with_bytes, filled, copied_up, copied_down}

-- bank 0 has 65,536 bytes
pub length-bank0 : (memory : List ℕ) → 65536 ≤ length memory → length (bank0 memory) ≡ 65536
unfolding bank0
length-bank0 memory h = length-take-le 65536 memory h

-- a byte of bank 0 is that of memory
pub bank0-at : (memory : List ℕ) (k : ℕ) → k < 65536 → slice_index (bank0 memory) k ≡ slice_index memory k
unfolding bank0
bank0-at memory k h = get_or-take 65536 memory k 0 h

-- a byte stored in bank 0 is stored in memory, and one stored in another bank leaves bank 0 alone
pub bank0-set : (memory : List ℕ) (k value : ℕ) → k < 65536 → bank0 (slice_set memory k value) ≡ slice_set (bank0 memory) k value
unfolding bank0
bank0-set memory k value h = take-set-lt 65536 memory k value h

pub bank0-set_other : (memory : List ℕ) (k value : ℕ) → 65536 ≤ k → bank0 (slice_set memory k value) ≡ bank0 memory
unfolding bank0
bank0-set_other memory k value h = take-set-le 65536 memory k value h

-- bytes put into bank 0
pub bank0-with_bytes : (memory : List ℕ) (at : ℕ) (bytes : List ℕ) → 65536 ≤ length memory → at + length bytes ≤ 65536
    → bank0 (with_bytes memory at bytes) ≡ with_bytes (bank0 memory) at bytes
unfolding bank0
bank0-with_bytes memory at bytes all h =
    let prefix : List ℕ = take at memory ++ bytes in
    let end = at + length bytes in
    let size : length prefix ≡ end =
    length-append (take at memory) bytes ∙ ap (λ n. n + length bytes) (length-take-le at memory (omega arith)) in
    let parts : 65536 ≡ end + (65536 - end) = omega arith in
    let whole : 65536 ≡ length prefix + (65536 - end) = omega arith in
    ap (λ n. take n (prefix ++ drop end memory)) whole
    ∙ take-append-add prefix (drop end memory) (65536 - end)
    ∙ ap (λ (z : List ℕ). prefix ++ z) (sym (ap (λ n. drop end (take n memory)) parts ∙ drop-take end (65536 - end) memory))
    ∙ ap (λ (z : List ℕ). z ++ bytes ++ drop end (take 65536 memory)) (sym (take-take at 65536 memory (omega arith)))

-- a fill of bank 0 fills it, and one of another bank leaves bank 0 alone
pub bank0-filled : (memory : List ℕ) (count at value : ℕ) → bank0 (filled memory count 0 at value) ≡ filled (bank0 memory) count 0 at value
unfolding filled
bank0-filled memory zero at value = refl
bank0-filled memory (suc count) at value =
    bank0-set (filled memory count 0 at value) (bank_place 0 (at + count)) value (omega arith)
    ∙ ap (λ (z : List ℕ). slice_set z (bank_place 0 (at + count)) value) (bank0-filled memory count at value)

pub bank0-filled_other : (memory : List ℕ) (count bank at value : ℕ) → 0 < bank → bank0 (filled memory count bank at value) ≡ bank0 memory
unfolding filled
bank0-filled_other memory zero bank at value b = refl
bank0-filled_other memory (suc count) bank at value b =
    bank0-set_other (filled memory count bank at value) (bank_place bank (at + count)) value (omega arith)
    ∙ bank0-filled_other memory count bank at value b

-- the same for copies
bank0-copied : (memory : List ℕ) (from to : ℕ) → bank0 (copied memory 0 from 0 to) ≡ copied (bank0 memory) 0 from 0 to
bank0-copied memory from to =
    bank0-set memory (bank_place 0 to) (slice_index memory (bank_place 0 from)) (omega arith)
    ∙ ap (λ byte. slice_set (bank0 memory) (bank_place 0 to) byte) (sym (bank0-at memory (bank_place 0 from) (omega arith)))

pub bank0-copied_up : (memory : List ℕ) (count from to : ℕ)
    → bank0 (copied_up memory count 0 from 0 to) ≡ copied_up (bank0 memory) count 0 from 0 to
unfolding copied_up
bank0-copied_up memory zero from to = refl
bank0-copied_up memory (suc count) from to =
    bank0-copied (copied_up memory count 0 from 0 to) (from + count) (to + count)
    ∙ ap (λ (z : List ℕ). copied z 0 (from + count) 0 (to + count)) (bank0-copied_up memory count from to)

pub bank0-copied_down : (memory : List ℕ) (count from to : ℕ)
    → bank0 (copied_down memory count 0 from 0 to) ≡ copied_down (bank0 memory) count 0 from 0 to
unfolding copied_down
bank0-copied_down memory zero from to = refl
bank0-copied_down memory (suc count) from to =
    bank0-copied_down (copied memory 0 (from + count) 0 (to + count)) count from to
    ∙ ap (λ (z : List ℕ). copied_down z count 0 from 0 to) (bank0-copied memory (from + count) (to + count))

pub bank0-copied_up_other : (memory : List ℕ) (count from_bank from to_bank to : ℕ) → 0 < to_bank
    → bank0 (copied_up memory count from_bank from to_bank to) ≡ bank0 memory
unfolding copied_up
bank0-copied_up_other memory zero from_bank from to_bank to b = refl
bank0-copied_up_other memory (suc count) from_bank from to_bank to b =
    bank0-set_other (copied_up memory count from_bank from to_bank to) (bank_place to_bank (to + count)) _ (omega arith)
    ∙ bank0-copied_up_other memory count from_bank from to_bank to b

pub bank0-copied_down_other : (memory : List ℕ) (count from_bank from to_bank to : ℕ) → 0 < to_bank
    → bank0 (copied_down memory count from_bank from to_bank to) ≡ bank0 memory
unfolding copied_down
bank0-copied_down_other memory zero from_bank from to_bank to b = refl
bank0-copied_down_other memory (suc count) from_bank from to_bank to b =
    bank0-copied_down_other (copied memory from_bank (from + count) to_bank (to + count)) count from_bank from to_bank to b
    ∙ bank0-set_other memory (bank_place to_bank (to + count)) (slice_index memory (bank_place from_bank (from + count))) (omega arith)

-- bank 0 changes as a memory of its own where it is changed, and not at all where another bank is
pub record Bank0Law : Type 0 where
  pub size : (memory : List ℕ) → 65536 ≤ length memory → length (bank0 memory) ≡ 65536
  pub reads : (memory : List ℕ) (k : ℕ) → k < 65536 → slice_index (bank0 memory) k ≡ slice_index memory k
  pub stores : (memory : List ℕ) (k value : ℕ) → k < 65536 → bank0 (slice_set memory k value) ≡ slice_set (bank0 memory) k value
  pub puts : (memory : List ℕ) (at : ℕ) (bytes : List ℕ) → 65536 ≤ length memory → at + length bytes ≤ 65536
      → bank0 (with_bytes memory at bytes) ≡ with_bytes (bank0 memory) at bytes
  pub fills : (memory : List ℕ) (count at value : ℕ)
      → bank0 (filled memory count 0 at value) ≡ filled (bank0 memory) count 0 at value
  pub copies_up : (memory : List ℕ) (count from to : ℕ)
      → bank0 (copied_up memory count 0 from 0 to) ≡ copied_up (bank0 memory) count 0 from 0 to
  pub copies_down : (memory : List ℕ) (count from to : ℕ)
      → bank0 (copied_down memory count 0 from 0 to) ≡ copied_down (bank0 memory) count 0 from 0 to
  pub stores_elsewhere : (memory : List ℕ) (k value : ℕ) → 65536 ≤ k → bank0 (slice_set memory k value) ≡ bank0 memory
  pub fills_elsewhere : (memory : List ℕ) (count bank at value : ℕ) → 0 < bank
      → bank0 (filled memory count bank at value) ≡ bank0 memory
  pub copies_up_elsewhere : (memory : List ℕ) (count from_bank from to_bank to : ℕ) → 0 < to_bank
      → bank0 (copied_up memory count from_bank from to_bank to) ≡ bank0 memory
  pub copies_down_elsewhere : (memory : List ℕ) (count from_bank from to_bank to : ℕ) → 0 < to_bank
      → bank0 (copied_down memory count from_bank from to_bank to) ≡ bank0 memory

pub bank0_law : Bank0Law
bank0_law = record {
  size = length-bank0;
  reads = bank0-at;
  stores = bank0-set;
  puts = bank0-with_bytes;
  fills = bank0-filled;
  copies_up = bank0-copied_up;
  copies_down = bank0-copied_down;
  stores_elsewhere = bank0-set_other;
  fills_elsewhere = bank0-filled_other;
  copies_up_elsewhere = bank0-copied_up_other;
  copies_down_elsewhere = bank0-copied_down_other;
}

-- the byte at an address of a bank is that address's, and lies so far behind another
at_place : (bank at count k : ℕ) → at < 65536 → count < 65536 → k ≡ bank_place bank (at + count)
    → (k / 65536 ≡ bank) × ((k % 65536 + 65536 - at) % 65536 ≡ count)
at_place bank at count k a c e = (omega arith, omega arith)

-- a place that is not in a run of one more byte is not in the run, and is not that byte
outside_more : (bank at count k : ℕ) → at < 65536 → count < 65536 → in_run bank at (suc count) k ≡ false
    → (in_run bank at count k ≡ false) × (k ≢ bank_place bank (at + count))
outside_more bank at count k a c out =
    let here : k ≡ bank_place bank (at + count) → in_run bank at (suc count) k ≡ true =
    λ e. let d = at_place bank at count k a c e in grind (arith, nat_tests) in
    (grind (arith, nat_tests), λ e. absurd (true≢false (sym (here e) ∙ out)))

-- a fill and a copy leave the bytes outside of their run alone
pub filled-outside : (memory : List ℕ) (count bank at value k : ℕ) → at < 65536 → count ≤ 65536 → in_run bank at count k ≡ false
    → slice_index (filled memory count bank at value) k ≡ slice_index memory k
unfolding filled
filled-outside memory zero bank at value k a c out = refl
filled-outside memory (suc count) bank at value k a c out =
    let more = outside_more bank at count k a (omega arith) out in
    get_or-set_other (filled memory count bank at value) (bank_place bank (at + count)) k value 0 more.1
    ∙ filled-outside memory count bank at value k a (omega arith) more.0

pub copied_up-outside : (memory : List ℕ) (count from_bank from to_bank to k : ℕ) → to < 65536 → count ≤ 65536
    → in_run to_bank to count k ≡ false → slice_index (copied_up memory count from_bank from to_bank to) k ≡ slice_index memory k
unfolding copied_up
copied_up-outside memory zero from_bank from to_bank to k a c out = refl
copied_up-outside memory (suc count) from_bank from to_bank to k a c out =
    let more = outside_more to_bank to count k a (omega arith) out in
    get_or-set_other (copied_up memory count from_bank from to_bank to) (bank_place to_bank (to + count)) k _ 0 more.1
    ∙ copied_up-outside memory count from_bank from to_bank to k a (omega arith) more.0

pub copied_down-outside : (memory : List ℕ) (count from_bank from to_bank to k : ℕ) → to < 65536 → count ≤ 65536
    → in_run to_bank to count k ≡ false → slice_index (copied_down memory count from_bank from to_bank to) k ≡ slice_index memory k
unfolding copied_down
copied_down-outside memory zero from_bank from to_bank to k a c out = refl
copied_down-outside memory (suc count) from_bank from to_bank to k a c out =
    let more = outside_more to_bank to count k a (omega arith) out in
    copied_down-outside (copied memory from_bank (from + count) to_bank (to + count)) count from_bank from to_bank to k a
    (omega arith) more.0
    ∙ get_or-set_other memory (bank_place to_bank (to + count)) k _ 0 more.1
