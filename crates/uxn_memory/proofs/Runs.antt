-- One more byte of a run that is filled or copied.
use Rattle.std.proofs.Common.{◌≡◌, ◌≢◌, ℕ, zero, suc, ◌+◌, ◌-◌, ◌/◌, ◌%◌, ◌<◌, ◌≤◌, ◌==◌, ◌&&◌, inl, inr, List, length, slice_index, slice_set, if◌then◌else◌, nat_lt, refl, add-one, arith}
use Rattle.std.proofs.Math.ListN.{length-set}
use Rattle.std.proofs.lemmas.Bool.{cases_eq}
use Rattle.std.proofs.lemmas.Bool.Decides.{nat_tests}
use Rattle.std.proofs.lemmas.Grind.{common_steps}
use Rattle.uxn_memory.specs.Bytes.{bank_place, copied, filled, copied_up, copied_down}

pub filled-none : (memory : List ℕ) (bank at value : ℕ) → filled memory 0 bank at value ≡ memory
unfolding filled
filled-none memory bank at value = refl

pub filled-more : (memory : List ℕ) (count bank at value : ℕ)
    → filled memory (count + 1) bank at value ≡ slice_set (filled memory count bank at value) (bank_place bank (at + count)) value
unfolding filled
filled-more memory count bank at value = rw add-one refl

pub copied_up-none : (memory : List ℕ) (from_bank from to_bank to : ℕ) → copied_up memory 0 from_bank from to_bank to ≡ memory
unfolding copied_up
copied_up-none memory from_bank from to_bank to = refl

pub copied_up-more : (memory : List ℕ) (count from_bank from to_bank to : ℕ) → copied_up memory (count + 1) from_bank from to_bank to
    ≡ copied (copied_up memory count from_bank from to_bank to) from_bank (from + count) to_bank (to + count)
unfolding copied_up
copied_up-more memory count from_bank from to_bank to = rw add-one refl

pub copied_down-end : (memory : List ℕ) (count from_bank from to_bank to : ℕ)
    → count ≤ 0 → copied_down memory count from_bank from to_bank to ≡ memory
unfolding copied_down
copied_down-end memory count from_bank from to_bank to h = grind (arith, common_steps)

pub copied_down-less : (memory : List ℕ) (count from_bank from to_bank to : ℕ) → 0 < count
    → copied_down memory count from_bank from to_bank to
    ≡ copied_down (copied memory from_bank (from + (count - 1)) to_bank (to + (count - 1))) (count - 1) from_bank from to_bank to
unfolding copied_down
copied_down-less memory count from_bank from to_bank to h = grind (arith, common_steps)

pub ruleset runs = (filled-none, filled-more, copied_up-none, copied_up-more, copied_down-end, copied_down-less)

pub length-filled : (memory : List ℕ) (count bank at value : ℕ) → length (filled memory count bank at value) ≡ length memory
unfolding filled
length-filled memory zero bank at value = refl
length-filled memory (suc count) bank at value = simp length-set (length-filled memory count bank at value)

-- how far a place lies behind an address of its bank
away : (bank at count k : ℕ) → at < 65536 → count < 65536 → k ≢ bank_place bank (at + count) → k / 65536 ≡ bank
    → (k % 65536 + 65536 - at) % 65536 ≢ count
away bank at count k a c ne is = omega arith

away_here : (bank at count k : ℕ) → at < 65536 → count < 65536 → k ≡ bank_place bank (at + count)
    → (k / 65536 ≡ bank) × ((k % 65536 + 65536 - at) % 65536 ≡ count)
away_here bank at count k a c e = (omega arith, omega arith)

-- which bytes a fill sets
pub filled-at : (memory : List ℕ) (count bank at value k : ℕ) → k < length memory → at < 65536 → count ≤ 65536
    → slice_index (filled memory count bank at value) k
    ≡ (if k / 65536 == bank && nat_lt ((k % 65536 + 65536 - at) % 65536) count then value else slice_index memory k)
unfolding filled
filled-at memory zero bank at value k h a c = grind (arith, nat_tests)
filled-at memory (suc count) bank at value k h a c =
    let before = filled-at memory count bank at value k h a (omega arith) in
    elim (cases_eq k (bank_place bank (at + count))) [
      | inl e ↦ let d = away_here bank at count k a (omega arith) e in grind (arith, nat_tests, common_steps, length-filled)
      | inr ne ↦ let d = away bank at count k a (omega arith) ne in grind (arith, nat_tests, common_steps, length-filled)
    ]
