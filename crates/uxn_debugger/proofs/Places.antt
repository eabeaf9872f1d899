-- What stands at a place of a list, of its prefix, and of its prefix in reverse.
use Rattle.std.proofs.Common.{◌≡◌, ℕ, zero, suc, ◌+◌, ◌-◌, ◌<◌, ◌≤◌, Bool, true, false, cond, List, [], ◌∷◌, ◌++◌, length, take, drop, get_or, Some, refl, sym, ap, ◌∙◌, arith}
use Rattle.std.specs.Prelude.{slice_get, not, reverse}
use Rattle.std.specs.List.{position_or_len}
use Rattle.std.proofs.Math.Seq.{take-suc}
use Rattle.std.proofs.lemmas.List.{length-drop, drop-drop, get_or-reverse, get_or-take, length-reverse, length-take-le, reverse-append}
use Rattle.std.proofs.lemmas.Option.{get_or_from_slice_get, slice_get-get_or}

pub get_at : {A : Type 0} (xs : List A) (i : ℕ) (x : A) (more : List A) → drop i xs ≡ x ∷ more → slice_get xs i ≡ Some x
get_at [] zero x more is = absurd (omega (arith, ap length is))
get_at [] (suc i) x more is = absurd (omega (arith, ap length is))
get_at (y ∷ ys) zero x more is = cc
get_at (y ∷ ys) (suc i) x more is = get_at ys i x more is

pub drop_next : {A : Type 0} (xs : List A) (i : ℕ) (x : A) (more : List A) → drop i xs ≡ x ∷ more → drop (i + 1) xs ≡ more
drop_next xs i x more is = sym (drop-drop 1 i xs) ∙ ap (λ ys. drop 1 ys) is

pub within : {A : Type 0} (xs : List A) (i : ℕ) (x : A) (more : List A) → drop i xs ≡ x ∷ more → i < length xs
within xs i x more is = omega (arith, length-drop i xs, ap length is)

-- something stands at each place of a list
pub record From {A : Type 0} (xs : List A) (i : ℕ) : Type 0 where
  pub first : A
  pub more : List A
  pub cut : drop i xs ≡ first ∷ more

pub from_place : {A : Type 0} (xs : List A) (i : ℕ) → i < length xs → From xs i
from_place [] i less = absurd (omega arith)
from_place (x ∷ xs) zero less = record { first = x; more = xs; cut = refl }
from_place (x ∷ xs) (suc i) less =
    let rest = from_place xs i (omega arith) in
    record { first = rest.first; more = rest.more; cut = rest.cut }

-- the first place that passes is the first, or one further on
pub first_passes : {A : Type 0} (p : A → Bool) (x : A) (xs : List A) → p x ≡ true → position_or_len p (x ∷ xs) ≡ 0
first_passes p x xs awaited = ap (λ b. cond (not b) (1 + position_or_len p xs) 0) awaited

pub first_fails : {A : Type 0} (p : A → Bool) (x : A) (xs : List A) → p x ≡ false → position_or_len p (x ∷ xs) ≡ 1 + position_or_len p xs
first_fails p x xs other = ap (λ b. cond (not b) (1 + position_or_len p xs) 0) other

-- a prefix, and one in reverse
pub taken_get : {A : Type 0} (n : ℕ) (xs : List A) (i : ℕ) → i < n → slice_get (take n xs) i ≡ slice_get xs i
taken_get zero xs i less = absurd (omega arith)
taken_get (suc n) [] i less = refl
taken_get (suc n) (x ∷ xs) zero less = refl
taken_get (suc n) (x ∷ xs) (suc i) less = taken_get n xs i (omega arith)

take_next : {A : Type 0} (xs : List A) (i : ℕ) (x : A) (more : List A) → drop i xs ≡ x ∷ more → take (suc i) xs ≡ take i xs ++ x ∷ []
take_next xs i x more is =
    take-suc xs i x (within xs i x more is) ∙ ap (λ z. take i xs ++ z ∷ []) (get_or_from_slice_get xs i x x (get_at xs i x more is))

pub reverse_next : {A : Type 0} (xs : List A) (i : ℕ) (x : A) (more : List A) → drop i xs ≡ x ∷ more
    → reverse (take (suc i) xs) ≡ x ∷ reverse (take i xs)
reverse_next xs i x more is = ap reverse (take_next xs i x more is) ∙ reverse-append (take i xs) (x ∷ [])

pub reverse_get : {A : Type 0} (xs : List A) (i less : ℕ) → less < i → i ≤ length xs → slice_get (reverse (take i xs)) less ≡ slice_get xs (i - suc less)
reverse_get xs i less under le =
    let x = (from_place xs (i - suc less) (omega arith)).first in
    let size : length (take i xs) ≡ i = length-take-le i xs le in
    let back : length (take i xs) - 1 - less ≡ i - suc less = omega arith in
    slice_get-get_or (reverse (take i xs)) less x (omega (arith, length-reverse (take i xs)))
    ∙ ap Some (get_or-reverse (take i xs) less x (omega arith) ∙ ap (λ n. get_or (take i xs) n x) back ∙ get_or-take i xs (i - suc less) x (omega arith))
    ∙ sym (slice_get-get_or xs (i - suc less) x (omega arith))
