-- Chains of indices, one hash at a time.
use Rattle.tal_labels.proofs.Common.{◌≡◌, ℕ, ◌+◌, ◌-◌, ◌<◌, ◌≤◌, List, [], ◌∷◌, ◌++◌, length, get_or, sym, ◌∙◌, ap, arith, inl, inr, length-append, cases_lt, refl}
use Rattle.std.proofs.Common.{set, get_or-set_same, get_or-set_other, subst, ◌%◌}
use Rattle.std.proofs.Math.Seq.{get_or-append_seam}
use Rattle.std.proofs.lemmas.Bool.{cases_eq}
use Rattle.std.proofs.lemmas.List.{get_or_append_left, length-set}
use Rattle.tal_labels.specs.Chains.{AreInChains, AreChained}

before_end : (xs : List ℕ) (x i : ℕ) → i < length xs → get_or (xs ++ x ∷ []) i 0 ≡ get_or xs i 0
before_end xs x i within = get_or_append_left xs (x ∷ []) 0 i within

at_end : (xs : List ℕ) (x i : ℕ) → i ≡ length xs → get_or (xs ++ x ∷ []) i 0 ≡ x
at_end xs x i e = ap (λ k. get_or (xs ++ x ∷ []) k 0) e ∙ get_or-append_seam xs x [] 0

one_more : (xs : List ℕ) (x : ℕ) → length (xs ++ x ∷ []) ≡ length xs + 1
one_more xs x = length-append xs (x ∷ [])

-- the index behind all others goes first in its chain
pub linked : (kind : ℕ → ℕ) (hashes lasts nexts : List ℕ) (hash at count : ℕ) → at ≡ kind hash → at < length lasts → count ≡ length hashes + 1
    → AreInChains kind hashes lasts nexts → AreInChains kind (hashes ++ hash ∷ []) (set lasts at count) (nexts ++ get_or lasts at 0 ∷ [])
linked kind hashes lasts nexts hash at count is_at below is_count chained =
    let n = length hashes in
    let size = chained.size in
    let sizes = length-set lasts at count in
    let more = one_more hashes hash in
    let put : get_or (set lasts at count) at 0 ≡ count = get_or-set_same lasts at count 0 below in
    let added : get_or (hashes ++ hash ∷ []) n 0 ≡ hash = at_end hashes hash n refl in
    let old = get_or lasts at 0 in
    let old_within : old ≤ n = chained.lasts_within at below in
    let last : get_or (nexts ++ old ∷ []) n 0 ≡ old = at_end nexts old n (sym size) in
    record {
      size = one_more nexts old ∙ ap (λ k. k + 1) size ∙ sym more;
      lasts_within = λ other inside. elim (cases_eq other at) [
        | inl same ↦ omega (arith, more, put ∙ is_count, ap (λ k. get_or (set lasts at count) k 0) same)
        | inr differ ↦ omega (arith, more, get_or-set_other lasts at other count 0 differ, chained.lasts_within other (omega (arith, sizes, inside)))
      ];
      lasts_alike = λ other inside some. elim (cases_eq other at) [
        | inl same ↦
            let read : get_or (set lasts at count) other 0 - 1 ≡ n = omega (arith, put ∙ is_count, ap (λ k. get_or (set lasts at count) k 0) same) in
            ap (λ k. kind (get_or (hashes ++ hash ∷ []) k 0)) read ∙ ap kind added ∙ sym is_at ∙ sym same
        | inr differ ↦
            let kept = get_or-set_other lasts at other count 0 differ in
            let inside_old : other < length lasts = omega (arith, sizes, inside) in
            let some_old : 0 < get_or lasts other 0 = omega (arith, kept, some) in
            let lies : get_or lasts other 0 - 1 < n = omega (arith, chained.lasts_within other inside_old, some_old) in
            ap (λ k. kind (get_or (hashes ++ hash ∷ []) (k - 1) 0)) kept ∙ ap kind (before_end hashes hash (get_or lasts other 0 - 1) lies)
            ∙ chained.lasts_alike other inside_old some_old
      ];
      lasts_skip = λ other i inside reach within alike. elim (cases_eq other at) [
        | inl same ↦ omega (arith, more, put ∙ is_count, ap (λ k. get_or (set lasts at count) k 0) same, reach, within)
        | inr differ ↦ elim (cases_lt i n) [
          | inl lies ↦
              chained.lasts_skip other i (omega (arith, sizes, inside)) (omega (arith, get_or-set_other lasts at other count 0 differ, reach)) lies
              (ap kind (sym (before_end hashes hash i lies)) ∙ alike)
          | inr past ↦
              let here : i ≡ n = omega (arith, more, within, past) in
              differ (sym alike ∙ ap kind (at_end hashes hash i here) ∙ sym is_at)
        ]
      ];
      nexts_within = λ k within. elim (cases_lt k n) [
        | inl lies ↦ omega (arith, before_end nexts old k (omega (arith, size, lies)), chained.nexts_within k lies)
        | inr past ↦
            let here : k ≡ n = omega (arith, more, within, past) in
            omega (arith, ap (λ j. get_or (nexts ++ old ∷ []) j 0) here, last, old_within, here)
      ];
      nexts_alike = λ k within some. elim (cases_lt k n) [
        | inl lies ↦
            let kept = before_end nexts old k (omega (arith, size, lies)) in
            let some_old : 0 < get_or nexts k 0 = omega (arith, kept, some) in
            let inner : get_or nexts k 0 - 1 < n = omega (arith, chained.nexts_within k lies, some_old, lies) in
            ap (λ j. kind (get_or (hashes ++ hash ∷ []) (j - 1) 0)) kept ∙ ap kind (before_end hashes hash (get_or nexts k 0 - 1) inner)
            ∙ chained.nexts_alike k lies some_old ∙ ap kind (sym (before_end hashes hash k lies))
        | inr past ↦
            let here : k ≡ n = omega (arith, more, within, past) in
            let kept : get_or (nexts ++ old ∷ []) k 0 ≡ old = ap (λ j. get_or (nexts ++ old ∷ []) j 0) here ∙ last in
            let some_old : 0 < old = omega (arith, kept, some) in
            ap (λ j. kind (get_or (hashes ++ hash ∷ []) (j - 1) 0)) kept ∙ ap kind (before_end hashes hash (old - 1) (omega (arith, old_within, some_old)))
            ∙ chained.lasts_alike at below some_old ∙ is_at ∙ ap kind (sym (at_end hashes hash k here))
      ];
      nexts_skip = λ k i within reach inside alike. elim (cases_lt k n) [
        | inl lies ↦
            chained.nexts_skip k i lies (omega (arith, before_end nexts old k (omega (arith, size, lies)), reach)) inside
            (ap kind (sym (before_end hashes hash i (omega (arith, inside, lies)))) ∙ alike ∙ ap kind (before_end hashes hash k lies))
        | inr past ↦
            let here : k ≡ n = omega (arith, more, within, past) in
            let kept : get_or (nexts ++ old ∷ []) k 0 ≡ old = ap (λ j. get_or (nexts ++ old ∷ []) j 0) here ∙ last in
            let lies : i < n = omega (arith, here, inside) in
            chained.lasts_skip at i below (omega (arith, kept, reach)) lies
            (ap kind (sym (before_end hashes hash i lies)) ∙ alike ∙ ap kind (at_end hashes hash k here) ∙ sym is_at)
      ];
    }

-- the same by remainders
pub linked_by_remainder : (hashes lasts nexts : List ℕ) (hash at count : ℕ) → at ≡ hash % length lasts → at < length lasts → count ≡ length hashes + 1
    → AreChained hashes lasts nexts → AreChained (hashes ++ hash ∷ []) (set lasts at count) (nexts ++ get_or lasts at 0 ∷ [])
linked_by_remainder hashes lasts nexts hash at count is_at below is_count chained =
    let room = length-set lasts at count in
    let P : ℕ → Type 0 = λ size. AreInChains (λ other. other % size) (hashes ++ hash ∷ []) (set lasts at count) (nexts ++ get_or lasts at 0 ∷ []) in
    subst P (sym room) (linked (λ other. other % length lasts) hashes lasts nexts hash at count is_at below is_count chained)

-- no hash is in a chain
pub none_linked : (lasts nexts : List ℕ) → length nexts ≡ 0 → ((at : ℕ) → at < length lasts → get_or lasts at 0 ≡ 0) → AreChained [] lasts nexts
none_linked lasts nexts none zeros = record {
  size = none;
  lasts_within = λ at inside. omega (arith, zeros at inside);
  lasts_alike = λ at inside some. omega (arith, zeros at inside, some);
  lasts_skip = λ at i inside reach within alike. omega (arith, within);
  nexts_within = λ k within. omega (arith, within);
  nexts_alike = λ k within some. omega (arith, within);
  nexts_skip = λ k i within reach inside alike. omega (arith, within);
}

-- the same for lists that are known by equations
pub linked_when : (hashes lasts nexts lasts' nexts' : List ℕ) (hash room count old : ℕ) → room ≡ length lasts → hash % room < room
    → count ≡ length nexts + 1 → old ≡ get_or lasts (hash % room) 0 → lasts' ≡ set lasts (hash % room) count → nexts' ≡ nexts ++ old ∷ []
    → AreChained hashes lasts nexts → AreChained (hashes ++ hash ∷ []) lasts' nexts'
linked_when hashes lasts nexts lasts' nexts' hash room count old is_room below is_count is_old is_lasts is_nexts chained =
    let P : List ℕ → List ℕ → Type 0 = λ ls ns. AreChained (hashes ++ hash ∷ []) ls ns in
    let at = hash % room in
    let more : AreChained (hashes ++ hash ∷ []) (set lasts at count) (nexts ++ get_or lasts at 0 ∷ []) =
    linked_by_remainder hashes lasts nexts hash at count (ap (λ n. hash % n) is_room) (omega (arith, below, is_room)) (omega (arith, is_count, chained.size)) chained in
    rw (is_lasts, is_nexts, is_old) more
