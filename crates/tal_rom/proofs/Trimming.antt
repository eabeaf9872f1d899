-- Bytes without the zeros at their end, zeros, and what stands in memory from an index on.
use Rattle.tal_rom.proofs.Common.{◌≡◌, ◌≢◌, ℕ, suc, ◌-◌, ◌<◌, ◌≤◌, List, [], ◌∷◌, length, take, get_or, map, refl, sym, ◌∙◌, ap, arith, length-take}
use Rattle.tal_rom.proofs.Common.{ne_eqb, get_or_past, get_or-take, get_or-map-range_with_len, length-map-range_with_len, range_with_len, trimmed}
use Rattle.tal_rom.proofs.Common.{before_trimmed, drop, replicate, get_or-replicate, length-replicate, ◌+◌, ext_get_or, get_or-drop, length-drop}

-- lists that read the same, with zeros past their ends, are the same without the zeros at their ends
pub trimmed-same : (xs ys : List ℕ) → ((i : ℕ) → get_or xs i 0 ≡ get_or ys i 0) → trimmed xs ≡ trimmed ys
unfolding trimmed
trimmed-same [] [] h = refl
trimmed-same [] (y ∷ ys) h = rw (← h 0, ← trimmed-same [] ys (λ i. h (suc i))) refl
trimmed-same (x ∷ xs) [] h = rw (h 0, trimmed-same xs [] (λ i. h (suc i))) refl
trimmed-same (x ∷ xs) (y ∷ ys) h = rw (h 0, trimmed-same xs ys (λ i. h (suc i))) refl

-- a list whose last byte is not 0 is as it was
trimmed-full : (xs : List ℕ) → (0 < length xs → get_or xs (length xs - 1) 0 ≢ 0) → trimmed xs ≡ xs
unfolding trimmed
trimmed-full [] h = refl
trimmed-full (x ∷ []) h = rw (ne_eqb x 0 (h (omega arith))) refl
trimmed-full (x ∷ y ∷ ys) h =
    let last : length (x ∷ y ∷ ys) - 1 ≡ suc (length (y ∷ ys) - 1) = omega arith in
    ap (before_trimmed x) (trimmed-full (y ∷ ys) (λ _ zero_last. h (omega arith) (ap (λ k. get_or (x ∷ y ∷ ys) k 0) last ∙ zero_last)))

read_past : (xs : List ℕ) (n i : ℕ) → ((k : ℕ) → n ≤ k → k < length xs → get_or xs k 0 ≡ 0) → get_or (take n xs) i 0 ≡ get_or xs i 0
read_past xs n i zeros = grind (arith, get_or-take, get_or_past, length-take, zeros i)

-- up to the last byte that is not 0
pub trimmed-take : (xs : List ℕ) (n : ℕ) → n ≤ length xs → ((k : ℕ) → n ≤ k → k < length xs → get_or xs k 0 ≡ 0) → (0 < n → get_or xs (n - 1) 0 ≢ 0)
    → take n xs ≡ trimmed xs
trimmed-take xs n within zeros last =
    let size : length (take n xs) ≡ n = omega (arith, length-take n xs) in
    let full = trimmed-full (take n xs) (λ some zero_last. last (omega arith) (sym (read_past xs n (n - 1) zeros) ∙ rw size at zero_last)) in
    sym full ∙ trimmed-same (take n xs) xs (λ i. read_past xs n i zeros)

-- bytes that read as a function does are its list without the zeros at the end
pub trimmed-image : (f : ℕ → ℕ) (n : ℕ) (xs : List ℕ) → length xs ≤ n → ((i : ℕ) → get_or xs i 0 ≡ f i)
    → trimmed xs ≡ trimmed (map f (range_with_len 0 n))
trimmed-image f n xs short each =
    trimmed-same xs (map f (range_with_len 0 n)) (λ i.
    grind (arith, get_or-map-range_with_len f 0 n i i 0, get_or_past, length-map-range_with_len f 0 n, each i))

pub zeros_read : (count at : ℕ) → get_or (replicate {A = ℕ} count 0) at 0 ≡ 0
zeros_read count at = grind (arith, get_or-replicate, get_or_past, length-replicate)

-- bytes of which zeros at the end are taken away are trimmed to the same
pub stripped : (bytes : List ℕ) (n count : ℕ) → drop n bytes ≡ replicate count 0 → trimmed (take n bytes) ≡ trimmed bytes
stripped bytes n count e =
    trimmed-same (take n bytes) bytes (λ i. read_past bytes n i (λ k from within.
    grind (arith, get_or-drop n bytes (k - n) 0, zeros_read count (k - n))))

-- what stands behind so many bytes, as the list of a function
pub behind_is : (f : ℕ → ℕ) (start count : ℕ) (memory : List ℕ) → length memory ≡ start + count
    → ((i : ℕ) → i < count → get_or memory (start + i) 0 ≡ f i)
    → drop start memory ≡ map f (range_with_len 0 count)
behind_is f start count memory size each =
    let long : length (drop start memory) ≡ count = omega (arith, length-drop start memory, size) in
    ext_get_or 0 (drop start memory) (map f (range_with_len 0 count)) (omega (arith, long, length-map-range_with_len f 0 count)) (λ i within.
    let inside : i < count = omega (arith, long) in
    get_or-drop start memory i 0 ∙ each i inside ∙ sym (get_or-map-range_with_len f 0 count i i 0 inside (omega arith)))
