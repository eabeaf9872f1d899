-- Laws of what lies in a root: it itself, and what lies beneath it.
use Rattle.std.specs.Prelude.{◌≡◌, ℕ, suc, ◌+◌, ◌-◌, ◌<◌, Bool, true, nat_lt, List, [], ◌∷◌, ◌++◌, length, take}
use Rattle.std.specs.Prelude.{Some, None, if◌then◌else◌}
use Rattle.std.specs.Bool.{Decides}
use Rattle.std.specs.List.{join_with_byte}
use Rattle.std.specs.Str.{bytes_eq}
use Rattle.std.proofs.Common.{refl, ap, subst, ◌∙◌, inl, inr, arith, append_assoc}
use Rattle.std.proofs.lemmas.Bool.{lt-ltb}
use Rattle.std.proofs.lemmas.Bool.Decides.{Decides-or}
use Rattle.std.proofs.lemmas.List.{length-append, append-nil}
use Rattle.std.proofs.lemmas.List.Splits.{join_with_byte-slice_split}
use Rattle.std.proofs.lemmas.Slice.Eq.{bytes_eq-Decides}
use Rattle.std.proofs.Math.Seq.{take-append-add}
use Rattle.uxn_io_traits.specs.PathText.{components, is_under, joined, parent_from, parent_of, ContinuesAfter}
use Rattle.uxn_io_traits.specs.PathLaws.{length-components, components-append, join-append, is_under-Decides, joined_after, parent_before}
use Rattle.file_ports.specs.RootPart.{is_in, LiesIn}

pub is_in-Decides : (root path : List ℕ) → Decides (is_in root path) (LiesIn root path)
unfolding is_in
is_in-Decides root path = Decides-or (bytes_eq path root) (is_under path root) (bytes_eq-Decides path root) (is_under-Decides path root)

pub root_in : (root : List ℕ) → is_in root root ≡ true
root_in root = (is_in-Decides root root).1 (inl refl)

-- so is a path that is joined to it
pub joined_in : (root tail path : List ℕ) → joined root tail ≡ Some path → is_in root path ≡ true
joined_in root tail path e = (is_in-Decides root path).1 (inr (joined_after root tail path e))

-- what lies beneath what lies in a root lies in it
pub in_deeper : (root folder path : List ℕ) → LiesIn root folder → ContinuesAfter path folder → LiesIn root path
in_deeper root folder path (inl same) more = inr (more.0, more.1 ∙ ap (λ (z : List ℕ). z ++ 47 ∷ more.0) same)
in_deeper root folder path (inr deep) more =
    inr (deep.0 ++ 47 ∷ more.0, more.1 ∙ ap (λ (z : List ℕ). z ++ 47 ∷ more.0) deep.1 ∙ append_assoc root (47 ∷ deep.0) (47 ∷ more.0))

-- the parent of a path beneath the root lies in it
prefix_in : (xs ys : List (List ℕ)) → 0 < length xs → 0 < length ys
    → LiesIn (join_with_byte 47 xs) (join_with_byte 47 (xs ++ take (length ys - 1) ys))
prefix_in xs [] some more = absurd (omega (arith, more))
prefix_in xs (y ∷ []) some more = inl (ap (join_with_byte 47) (append-nil xs))
prefix_in xs (y ∷ z ∷ ys) some more =
    let k : suc (suc (length ys)) - 1 ≡ suc (length ys) = omega arith in
    let prefix : List (List ℕ) = y ∷ take (length ys) (z ∷ ys) in
    inr (
      join_with_byte 47 prefix,
      ap (λ (n : ℕ). join_with_byte 47 (xs ++ take n (y ∷ z ∷ ys))) k ∙ join-append xs prefix some (omega arith),
    )

names_in : (xs ys : List (List ℕ)) → 0 < length xs → 0 < length ys
    → parent_from (xs ++ ys) ≡ Some (join_with_byte 47 (xs ++ take (length ys - 1) ys))
names_in xs ys some more =
    let size = length-append xs ys in
    let long : nat_lt 1 (length (xs ++ ys)) ≡ true = lt-ltb 1 (length (xs ++ ys)) (omega arith) in
    let count : length (xs ++ ys) - 1 ≡ length xs + (length ys - 1) = omega arith in
    ap (λ (b : Bool). if b then Some (join_with_byte 47 (take (length (xs ++ ys) - 1) (xs ++ ys))) else None) long
    ∙ ap (λ (n : ℕ). Some (join_with_byte 47 (take n (xs ++ ys)))) count
    ∙ ap (λ (z : List (List ℕ)). Some (join_with_byte 47 z)) (take-append-add xs ys (length ys - 1))

pub parent_in : (root path : List ℕ) → ContinuesAfter path root → (p : List ℕ) × (parent_of path ≡ Some p) × LiesIn root p
unfolding parent_of
parent_in root path more =
    let xs = components root in
    let ys = components more.0 in
    let names : components path ≡ xs ++ ys = ap components more.1 ∙ components-append root more.0 in
    let P : List ℕ → Type 0 = λ r. LiesIn r (join_with_byte 47 (xs ++ take (length ys - 1) ys)) in (
      join_with_byte 47 (xs ++ take (length ys - 1) ys),
      ap parent_from names ∙ names_in xs ys (length-components root) (length-components more.0),
      subst P (join_with_byte-slice_split 47 root) (prefix_in xs ys (length-components root) (length-components more.0)),
    )

-- the root's own parent does not
pub parent_outside : (root parent : List ℕ) → parent_of root ≡ Some parent → LiesIn root parent → ⊥
parent_outside root parent e (inl same) =
    let more = parent_before root parent e in
    omega (arith, ap length more.1, length-append parent (47 ∷ more.0), ap length same)
parent_outside root parent e (inr deep) =
    let more = parent_before root parent e in
    omega (arith, ap length more.1, length-append parent (47 ∷ more.0), ap length deep.1, length-append root (47 ∷ deep.0))
