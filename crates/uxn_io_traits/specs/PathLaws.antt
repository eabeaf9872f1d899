-- Laws of paths: their components, what lies beneath a path, and its parent.
use Rattle.std.specs.Prelude.{◌≡◌, ℕ, ◌-◌, ◌<◌, Bool, true, false, nat_lt, List, [], ◌∷◌, ◌++◌, length, take, drop}
use Rattle.std.specs.Prelude.{Option, Some, None, if◌then◌else◌}
use Rattle.std.specs.Bool.{Decides}
use Rattle.std.specs.List.{onto_first, join_with_byte}
use Rattle.std.specs.Option.{unwrap_or}
use Rattle.std.proofs.Common.{cond, eqb, refl, ap, sym, ◌∙◌, arith}
use Rattle.std.proofs.lemmas.Bool.Decides.{Decides-ltb, Decides-and, Decides-like}
use Rattle.std.proofs.lemmas.List.{length-append, length-take, length-drop, take-append-drop, take_at, append_assoc}
use Rattle.std.proofs.lemmas.List.Splits.{length-slice_split, join_with_byte-slice_split}
use Rattle.std.proofs.lemmas.Slice.Eq.{slice_eq-Decides, bytes_eq-Decides}
use Rattle.uxn_io_traits.specs.PathText.{components, is_too_long, joined, parent_from, parent_of, is_under, ContinuesAfter}

-- a text has a component
pub length-components : (text : List ℕ) → 0 < length (components text)
length-components text = omega (arith, length-slice_split (λ b. eqb b 47) text)

onto_first-append : (x : ℕ) (prefix tail : List (List ℕ)) → 0 < length prefix → onto_first x (prefix ++ tail) ≡ onto_first x prefix ++ tail
onto_first-append x [] tail some = absurd (omega (arith, some))
onto_first-append x (name ∷ prefix) tail some = refl

split_step : (b : Bool) (x : ℕ) (whole prefix tail : List (List ℕ)) → 0 < length prefix → whole ≡ prefix ++ tail
    → cond b ([] ∷ whole) (onto_first x whole) ≡ cond b ([] ∷ prefix) (onto_first x prefix) ++ tail
split_step true x whole prefix tail some is = ap (λ (z : List (List ℕ)). [] ∷ z) is
split_step false x whole prefix tail some is = ap (onto_first x) is ∙ onto_first-append x prefix tail some

-- a slash parts the components before it from those after it
pub components-append : (text tail : List ℕ) → components (text ++ 47 ∷ tail) ≡ components text ++ components tail
components-append [] tail = refl
components-append (x ∷ text) tail = split_step (eqb x 47) x _ _ _ (length-components text) (components-append text tail)

-- names joined by slashes
pub join-append : (xs ys : List (List ℕ)) → 0 < length xs → 0 < length ys
    → join_with_byte 47 (xs ++ ys) ≡ join_with_byte 47 xs ++ 47 ∷ join_with_byte 47 ys
join-append [] ys some more = absurd (omega (arith, some))
join-append (x ∷ []) [] some more = absurd (omega (arith, more))
join-append (x ∷ []) (y ∷ ys) some more = refl
join-append (x ∷ w ∷ xs) ys some more =
    ap (λ (z : List ℕ). x ++ (47 ∷ z)) (join-append (w ∷ xs) ys (omega arith) more)
    ∙ sym (append_assoc x (47 ∷ join_with_byte 47 (w ∷ xs)) (47 ∷ join_with_byte 47 ys))

under_from : (text other : List ℕ)
    → (length (components other) < length (components text)) × (components other ≡ take (length (components other)) (components text))
    → ContinuesAfter text other
under_from text other h =
    let n = length (components other) in
    let rest = drop n (components text) in
    let some : 0 < length rest = omega (arith, h.0, length-drop n (components text)) in (
      join_with_byte 47 rest,
      sym (join_with_byte-slice_split 47 text)
          ∙ ap (join_with_byte 47) (sym (take-append-drop n (components text)) ∙ ap (λ (z : List (List ℕ)). z ++ rest) (sym h.1))
          ∙ join-append (components other) rest (length-components other) some
          ∙ ap (λ (z : List ℕ). z ++ 47 ∷ join_with_byte 47 rest) (join_with_byte-slice_split 47 other),
    )

under_to : (text other : List ℕ) → ContinuesAfter text other
    → (length (components other) < length (components text)) × (components other ≡ take (length (components other)) (components text))
under_to text other h =
    let names : components text ≡ components other ++ components h.0 = ap components h.1 ∙ components-append other h.0 in (
      omega (arith, ap length names, length-append (components other) (components h.0), length-components h.0),
      sym (ap (take (length (components other))) names ∙ take_at (components other) (components h.0) _ refl),
    )

-- a text lies beneath another where it is that, a slash and more
pub is_under-Decides : (text other : List ℕ) → Decides (is_under text other) (ContinuesAfter text other)
unfolding is_under
is_under-Decides text other =
    Decides-like _ (under_from text other) (under_to text other)
    (Decides-and _ _ (Decides-ltb _ _)
    (slice_eq-Decides bytes_eq-Decides (components other) (take (length (components other)) (components text)) _ refl))

-- so does a path that is joined to it
joined_some : (long : Bool) (text path : List ℕ) → (if long then None else Some text) ≡ Some path → path ≡ text
joined_some true text path e = cc
joined_some false text path e = cc

pub joined_after : (text tail path : List ℕ) → joined text tail ≡ Some path → ContinuesAfter path text
unfolding joined
joined_after text tail path e = (tail, joined_some (is_too_long (text ++ 47 ∷ tail)) (text ++ 47 ∷ tail) path e)

-- and a text lies beneath its parent
parent_is : (long : Bool) (text folder : List ℕ) → (if long then Some text else None) ≡ Some folder → (long ≡ true) × (folder ≡ text)
parent_is true text folder e = (refl, sym (ap (λ (o : Option (List ℕ)). unwrap_or o []) e))
parent_is false text folder e = cc

names_parent : (names : List (List ℕ)) (folder : List ℕ) → parent_from names ≡ Some folder
    → join_with_byte 47 names ≡ folder ++ 47 ∷ join_with_byte 47 (drop (length names - 1) names)
names_parent names folder e =
    let is = parent_is (nat_lt 1 (length names)) (join_with_byte 47 (take (length names - 1) names)) folder e in
    let long : 1 < length names = (Decides-ltb 1 (length names)).0 is.0 in
    let prefix = take (length names - 1) names in
    let back = drop (length names - 1) names in
    ap (join_with_byte 47) (sym (take-append-drop (length names - 1) names))
    ∙ join-append prefix back (omega (arith, length-take (length names - 1) names)) (omega (arith, length-drop (length names - 1) names))
    ∙ ap (λ (z : List ℕ). z ++ 47 ∷ join_with_byte 47 back) (sym is.1)

pub parent_before : (text folder : List ℕ) → parent_of text ≡ Some folder → ContinuesAfter text folder
unfolding parent_of
parent_before text folder e = (
  join_with_byte 47 (drop (length (components text) - 1) (components text)),
  sym (join_with_byte-slice_split 47 text) ∙ names_parent (components text) folder e,
)

pub parent_under : (text folder : List ℕ) → parent_of text ≡ Some folder → is_under text folder ≡ true
parent_under text folder e = (is_under-Decides text folder).1 (parent_before text folder e)
