-- The bytes that are kept, and those behind them, which are 0.
use Rattle.std.proofs.Common.{◌≡◌, ℕ, ◌+◌, ◌-◌, ◌<◌, ◌≤◌, inl, inr, List, [], ◌++◌, length, take, drop, min, replicate, slice_index, slice_set, EachIndex, refl, ap, sym, ◌∙◌, append_assoc, arith}
use Rattle.std.proofs.Math.ListN.{get_or-append}
use Rattle.std.proofs.lemmas.List.{length-append, length-replicate, length-set, take_all, drop-take, take-append-le, set-append_left, replicate-append-replicate}
use Rattle.std.proofs.lemmas.Bool.{cases_lt}
use Rattle.uxn_memory.specs.Bytes.{zeros, all_bytes, with_bytes, bank0}
use Rattle.std.proofs.lemmas.Grind.{common_steps}

pub all_bytes-none : all_bytes [] ≡ zeros 1048576
unfolding all_bytes
all_bytes-none = refl

pub length-all_bytes : (first : List ℕ) → length first ≤ 1048576 → length (all_bytes first) ≡ 1048576
unfolding all_bytes zeros
length-all_bytes first h = simp (length-append, length-replicate) (omega arith)

pub all_bytes-at : (first : List ℕ) (k : ℕ) → k < length first → slice_index (all_bytes first) k ≡ slice_index first k
unfolding all_bytes
all_bytes-at first k h = get_or-append first (zeros (1048576 - length first)) 0 k h

pub all_bytes-behind : (first : List ℕ) (k : ℕ) → length first ≤ k → k < 1048576 → slice_index (all_bytes first) k ≡ 0
unfolding all_bytes zeros
all_bytes-behind first k h within = grind (arith, common_steps)

pub all_bytes-set : (first : List ℕ) (k value : ℕ) → k < length first → slice_set (all_bytes first) k value ≡ all_bytes (slice_set first k value)
unfolding all_bytes
all_bytes-set first k value h =
    set-append_left first (zeros (1048576 - length first)) k value h
    ∙ ap (λ (n : ℕ). slice_set first k value ++ zeros (1048576 - n)) (sym (length-set first k value))

-- more bytes are kept, all 0
pub all_bytes-more : (first : List ℕ) (count size : ℕ) → length first ≡ size → size ≤ count → count ≤ 1048576
    → all_bytes (take count first ++ replicate (count - size) 0) ≡ all_bytes first
unfolding all_bytes zeros
all_bytes-more first count size is more within =
    let zeros_more : List ℕ = replicate (count - size) 0 in
    let all : (count - size) + (1048576 - length (first ++ zeros_more)) ≡ 1048576 - length first =
    simp (length-append, length-replicate) (omega arith) in
    ap (λ (z : List ℕ). all_bytes (z ++ zeros_more)) (take_all count first (omega arith))
    ∙ append_assoc first zeros_more _
    ∙ ap (λ (z : List ℕ). first ++ z) (replicate-append-replicate (count - size) (1048576 - length (first ++ zeros_more)) 0)
    ∙ ap (λ (n : ℕ). first ++ replicate n 0) all

pub length-with_bytes : (memory : List ℕ) (at : ℕ) (bytes : List ℕ) → at + length bytes ≤ length memory → length (with_bytes memory at bytes) ≡ length memory
length-with_bytes memory at bytes h = grind (arith, common_steps)

pub all_bytes-with : (first : List ℕ) (at : ℕ) (bytes : List ℕ) → at + length bytes ≤ length first → with_bytes (all_bytes first) at bytes ≡ all_bytes (with_bytes first at bytes)
unfolding all_bytes
all_bytes-with first at bytes h = grind (arith, common_steps)

pub all_bytes-fit : (first : List ℕ) → length first ≤ 1048576 → EachIndex first (λ k. slice_index first k < 256)
    → EachIndex (all_bytes first) (λ k. slice_index (all_bytes first) k < 256)
all_bytes-fit first within fit k h =
    let below : k < 1048576 = rw (length-all_bytes first within) at h in
    elim (cases_lt k (length first)) [
      | inl here ↦ let e = all_bytes-at first k here in let small = fit k here in omega (arith, e, small)
      | inr behind ↦ let e = all_bytes-behind first k behind below in omega (arith, e)
    ]

-- the shorter of two prefixes
take_both : (count room : ℕ) (xs : List ℕ) → take count (take room xs) ≡ take (min count room) xs
take_both count room xs = grind (arith, common_steps)

pub all_bytes-slice : (first : List ℕ) (at count : ℕ) → 65536 ≤ length first → at ≤ 65536
    → take count (drop at (bank0 (all_bytes first))) ≡ take (min 65536 (at + count) - at) (drop at first)
unfolding all_bytes bank0
all_bytes-slice first at count h a =
    let bank : take 65536 (first ++ zeros (1048576 - length first)) ≡ take 65536 first = take-append-le 65536 first (zeros (1048576 - length first)) h in
    let parts : 65536 ≡ at + (65536 - at) = omega arith in
    let size : min count (65536 - at) ≡ min 65536 (at + count) - at = omega arith in
    ap (λ (z : List ℕ). take count (drop at z)) bank
    ∙ ap (λ (n : ℕ). take count (drop at (take n first))) parts
    ∙ ap (λ (z : List ℕ). take count z) (drop-take at (65536 - at) first)
    ∙ take_both count (65536 - at) (drop at first)
    ∙ ap (λ (n : ℕ). take n (drop at first)) size

pub ruleset kept = (all_bytes-none, length-all_bytes, all_bytes-at, all_bytes-behind, all_bytes-set, all_bytes-more, length-with_bytes, all_bytes-with, all_bytes-fit, all_bytes-slice)
