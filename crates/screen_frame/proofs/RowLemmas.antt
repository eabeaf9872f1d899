-- One more pixel of a row of the picture file.
use Rattle.std.proofs.Common.{append_assoc, ap, ◌≡◌, ℕ, ◌+◌, ◌*◌, ◌<◌, List, [], ◌∷◌, ◌++◌, length, take, slice_index_or, slice_set, refl, sym, ◌∙◌, arith}
use Rattle.std.proofs.lemmas.List.{append-nil, length-set, take_more_set, take_more}
use Rattle.std.proofs.lemmas.List.Concat.{flat_map-append}
use Rattle.std.proofs.lemmas.Grind.{common_steps}
use Rattle.screen_frame.specs.Ppm.{row_bytes}

pub three_elements : (xs : List ℕ) → length xs ≡ 3 → slice_index_or xs 0 0 ∷ slice_index_or xs 1 0 ∷ slice_index_or xs 2 0 ∷ [] ≡ xs
three_elements [] h = absurd (omega arith)
three_elements (a ∷ []) h = absurd (omega arith)
three_elements (a ∷ b ∷ []) h = absurd (omega arith)
three_elements (a ∷ b ∷ c ∷ []) h = refl
three_elements (a ∷ b ∷ c ∷ d ∷ xs) h = absurd (omega arith)

three_set : (xs : List ℕ) (n a b c : ℕ) → n + 2 < length xs
    → take (n + 3) (slice_set (slice_set (slice_set xs n a) (n + 1) b) (n + 2) c) ≡ take n xs ++ (a ∷ b ∷ c ∷ [])
three_set xs n a b c h =
    let first = take_more_set xs n a (omega arith) in
    let second = take_more_set (slice_set xs n a) (n + 1) b (omega (arith, length-set xs n a)) in
    let third = take_more_set (slice_set (slice_set xs n a) (n + 1) b) (n + 2) c (omega (arith, length-set xs n a, length-set (slice_set xs n a) (n + 1) b)) in
    grind (arith, common_steps)

pub row_more : (colours : List (List ℕ)) (row into colour : List ℕ) (i : ℕ) → i < length row → length into ≡ 3 * length row
    → colour ≡ slice_index_or colours (slice_index_or row i 0) [] → length colour ≡ 3
    → take (3 * i) into ≡ row_bytes colours (take i row)
    → take (3 * (i + 1)) (slice_set (slice_set (slice_set into (3 * i) (slice_index_or colour 0 0)) (3 * i + 1) (slice_index_or colour 1 0)) (3 * i + 2) (slice_index_or colour 2 0))
    ≡ row_bytes colours (take (i + 1) row)
row_more colours row into colour i h l v three before =
    let wide : 3 * i + 2 < length into = omega arith in
    let more : 3 * (i + 1) ≡ 3 * i + 3 = omega arith in
    let taken = three_set into (3 * i) (slice_index_or colour 0 0) (slice_index_or colour 1 0) (slice_index_or colour 2 0) wide in
    let whole : take (3 * i) into ++ (slice_index_or colour 0 0 ∷ slice_index_or colour 1 0 ∷ slice_index_or colour 2 0 ∷ []) ≡ row_bytes colours (take i row) ++ colour =
    rw (three_elements colour three, before) refl in
    let joined : row_bytes colours (take (i + 1) row) ≡ row_bytes colours (take i row) ++ colour =
    rw (take_more row i 0 h, flat_map-append (λ x. slice_index_or colours x []) (take i row) (slice_index_or row i 0 ∷ [])) (rw (← v, append-nil colour) refl) in
    rw more (taken ∙ whole ∙ sym joined)

-- the colour of one more pixel behind those before
row_next : (colours : List (List ℕ)) (row prefix : List ℕ) (i : ℕ) → i < length row → prefix ≡ row_bytes colours (take i row)
    → prefix ++ slice_index_or colours (slice_index_or row i 0) [] ≡ row_bytes colours (take (i + 1) row)
row_next colours row prefix i h before =
    let joined : row_bytes colours (take (i + 1) row) ≡ row_bytes colours (take i row) ++ slice_index_or colours (slice_index_or row i 0) [] =
    rw (take_more row i 0 h, flat_map-append (λ x. slice_index_or colours x []) (take i row) (slice_index_or row i 0 ∷ [])) (rw (append-nil (slice_index_or colours (slice_index_or row i 0) [])) refl) in
    rw before (sym joined)

-- the colours of two more
pub row_two : (colours : List (List ℕ)) (row into after one other : List ℕ) (i at : ℕ) → at ≡ 3 * i → i + 1 < length row
    → take (at + 6) after ≡ take at into ++ (take 3 one ++ take 3 other)
    → take 3 one ≡ slice_index_or colours (slice_index_or row i 0) [] → take 3 other ≡ slice_index_or colours (slice_index_or row (i + 1) 0) []
    → take (3 * i) into ≡ row_bytes colours (take i row) → take (3 * (i + 2)) after ≡ row_bytes colours (take (i + 2) row)
row_two colours row into after one other i at at_is h put first second before =
    let bytes : 3 * (i + 2) ≡ at + 6 = omega arith in
    let pixels : i + 1 + 1 ≡ i + 2 = omega arith in
    let prefix : take at into ≡ row_bytes colours (take i row) = ap (λ n. take n into) at_is ∙ before in
    let a = row_next colours row (take at into) i (omega arith) prefix in
    let b = row_next colours row (take at into ++ slice_index_or colours (slice_index_or row i 0) []) (i + 1) h a in
    ap (λ n. take n after) bytes ∙ put ∙ rw (first, second) (sym (append_assoc (take at into) (slice_index_or colours (slice_index_or row i 0) []) (slice_index_or colours (slice_index_or row (i + 1) 0) [])))
    ∙ b ∙ ap (λ n. row_bytes colours (take n row)) pixels
