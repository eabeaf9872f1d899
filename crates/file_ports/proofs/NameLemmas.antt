-- The bytes around an address, and a name among them.
use Rattle.std.proofs.Common.{◌≡◌, ℕ, ◌+◌, ◌-◌, ◌≤◌, zero, suc, List, [], ◌∷◌, ◌++◌, length, take, drop, refl, ap, ◌∙◌, arith}
use Rattle.std.proofs.lemmas.List.{length-take}
use Rattle.uxn_memory.specs.Bytes.{bank0}
use Rattle.file_ports.specs.Names.{bytes_around}

take-append : (n : ℕ) (xs ys : List ℕ) → take n (xs ++ ys) ≡ take n xs ++ take (n - length xs) ys
take-append zero xs ys = let e : 0 - length xs ≡ 0 = omega arith in rw e refl
take-append (suc n) [] ys = let e : suc n - 0 ≡ suc n = omega arith in rw e refl
take-append (suc n) (x ∷ xs) ys =
    let e : suc n - suc (length xs) ≡ n - length xs = omega arith in
    rw e (ap (λ (z : List ℕ). x ∷ z) (take-append n xs ys))

prefix_and_rest : (n : ℕ) (xs ys : List ℕ) → take n (xs ++ ys) ≡ take n xs ++ take (n - length (take n xs)) ys
prefix_and_rest n xs ys =
    let e : n - length xs ≡ n - length (take n xs) = omega (arith, length-take n xs) in
    take-append n xs ys ∙ ap (λ (m : ℕ). take n xs ++ take m ys) e

pub bytes_around-parts : (memory : List ℕ) (at : ℕ) → bytes_around memory at ≡ take 256 (drop at (bank0 memory)) ++ take (256 - length (take 256 (drop at (bank0 memory)))) (bank0 memory)
unfolding bytes_around
bytes_around-parts memory at = prefix_and_rest 256 (drop at (bank0 memory)) (bank0 memory)

-- how long the two parts are
pub prefix_within : (n : ℕ) (xs : List ℕ) → length (take n xs) ≤ n
prefix_within n xs = omega (arith, length-take n xs)

pub both_whole : (n : ℕ) (xs ys : List ℕ) → n ≤ length ys → length (take n xs) + length (take (n - length (take n xs)) ys) ≡ n
both_whole n xs ys h = omega (arith, length-take n xs, length-take (n - length (take n xs)) ys)
