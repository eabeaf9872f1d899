-- Bytes put in memory, one piece after another.
use Rattle.std.proofs.lemmas.Grind.{common_steps}
use Rattle.std.proofs.Common.{◌≡◌, ℕ, zero, suc, ◌+◌, ◌*◌, ◌%◌, ◌<◌, ◌≤◌, List, [], ◌∷◌, ◌++◌, length, take, drop, replicate, ap, sym, ◌∙◌, add-one}
use Rattle.std.proofs.Common.{arith, append_assoc}
use Rattle.std.specs.Prelude.{slice_set}
use Rattle.std.proofs.lemmas.List.{length-append, length-take-le, length-replicate, take_at, drop_at, drop-drop, drop_more, set_at, replicate_more}
use Rattle.uxn_memory.specs.Bytes.{bank_place, with_bytes, filled}

-- to put nothing changes nothing
pub with_nothing : (memory : List ℕ) (at : ℕ) → with_bytes memory at [] ≡ memory
with_nothing memory at = grind (arith, common_steps)

prefix_length : (memory : List ℕ) (at : ℕ) (xs : List ℕ) → at ≤ length memory → length (take at memory ++ xs) ≡ at + length xs
prefix_length memory at xs h = length-append (take at memory) xs ∙ ap (λ (n : ℕ). n + length xs) (length-take-le at memory h)

-- a piece behind a piece is both
pub with_more : (memory : List ℕ) (at : ℕ) (xs ys : List ℕ) → at ≤ length memory
    → with_bytes (with_bytes memory at xs) (at + length xs) ys ≡ with_bytes memory at (xs ++ ys)
with_more memory at xs ys h =
    let prefix = take at memory ++ xs in
    let size = prefix_length memory at xs h in
    let rest : drop (at + length xs + length ys) (with_bytes memory at xs) ≡ drop (at + length (xs ++ ys)) memory =
    sym (drop-drop (length ys) (at + length xs) (with_bytes memory at xs))
    ∙ ap (drop (length ys)) (drop_at prefix (drop (at + length xs) memory) (at + length xs) size)
    ∙ drop-drop (length ys) (at + length xs) memory
    ∙ (let e : at + length xs + length ys ≡ at + length (xs ++ ys) = omega (arith, length-append xs ys) in ap (λ (n : ℕ). drop n memory) e) in
    (λ i. take_at prefix (drop (at + length xs) memory) (at + length xs) size i ++ ys ++ rest i)
    ∙ ap (λ (z : List ℕ). z ++ drop (at + length (xs ++ ys)) memory) (append_assoc (take at memory) xs ys)

-- a byte set behind where a piece is put is the last of a longer one
pub with_last : (memory : List ℕ) (at : ℕ) (xs : List ℕ) (y : ℕ) → at + length xs < length memory
    → with_bytes (slice_set memory (at + length xs) y) at xs ≡ with_bytes memory at (xs ++ y ∷ [])
with_last memory at xs y h = grind (arith, common_steps)

-- a byte set right behind a piece
then_set : (memory : List ℕ) (at : ℕ) (xs : List ℕ) (y : ℕ) → at + length xs < length memory
    → slice_set (with_bytes memory at xs) (at + length xs) y ≡ with_bytes memory at (xs ++ y ∷ [])
then_set memory at xs y h =
    let prefix = take at memory ++ xs in
    let e : at + length xs + 1 ≡ at + length (xs ++ y ∷ []) = omega (arith, length-append xs (y ∷ [])) in
    ap (λ (z : List ℕ). slice_set (prefix ++ z) (at + length xs) y) (drop_more memory (at + length xs) 0 h)
    ∙ set_at prefix _ (drop (at + length xs + 1) memory) y (at + length xs) (prefix_length memory at xs (omega arith))
    ∙ sym (append_assoc prefix (y ∷ []) (drop (at + length xs + 1) memory))
    ∙ (λ i. append_assoc (take at memory) xs (y ∷ []) i ++ drop (e i) memory)

-- a fill that does not wrap puts the same byte so many times
pub with_same : (memory : List ℕ) (count at value : ℕ) → length memory ≡ 1048576 → at + count ≤ 65536
    → filled memory count 0 at value ≡ with_bytes memory at (replicate count value)
unfolding filled
with_same memory zero at value size h = sym (with_nothing memory at)
with_same memory (suc count) at value size h =
    let here : 0 * 65536 + (at + count) % 65536 ≡ at + length (replicate count value) = omega (arith, length-replicate count value) in
    ap (λ (z : List ℕ). slice_set z (bank_place 0 (at + count)) value) (with_same memory count at value size (omega arith))
    ∙ ap (λ (n : ℕ). slice_set (with_bytes memory at (replicate count value)) n value) here
    ∙ then_set memory at (replicate count value) value (omega (arith, length-replicate count value))
    ∙ ap (with_bytes memory at) (replicate_more count value ∙ ap (λ (n : ℕ). replicate n value) (add-one count))
