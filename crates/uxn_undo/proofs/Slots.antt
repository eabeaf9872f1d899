-- The rows of the moments that are held stay where they are when the next one is put.
use Rattle.std.proofs.Common.{rules}
use Rattle.uxn_undo.proofs.Common.{◌≡◌, ◌≢◌, ℕ, zero, suc, ◌+◌, ◌%◌, ◌<◌, ◌≤◌, ◌==◌, cond, List, [], ◌∷◌, ◌++◌, length, take, Some, None}
use Rattle.uxn_undo.proofs.Common.{refl, ap, ◌∙◌, arith, slice_get, slice_index_or, sum_by, Option, option_map, length-take}
use Rattle.uxn_undo.proofs.Common.{sum_by-cons, Row, Record, Kept, entry_count, moment_of, moments_in, row_in, no_row}
use Rattle.uxn_undo.specs.Slots.{slot_before, InOrder, AreSlots}
use Rattle.uxn_undo.proofs.Joined.{moments-push}

-- fewer records
pub in_order-take : (n size next : ℕ) (records : List Record) → InOrder size next records → InOrder size next (take n records)
in_order-take zero size next records order = tt
in_order-take (suc n) size next [] order = tt
in_order-take (suc n) size next (newest ∷ older) order = (order.0, order.1, order.2, in_order-take n size (slot_before next) older order.3)

-- more slots
pub in_order-more : (size more next : ℕ) (records : List Record) → size ≤ more → InOrder size next records → InOrder more next records
in_order-more size more next [] le order = tt
in_order-more size more next (newest ∷ older) le order = search (arith, rules, in_order-more size more (slot_before next) older)

-- rows that are the same but in one slot
abbrev pub SameBut : ℕ → ℕ → List Row → List Row → Type 0
SameBut size slot before now = (k : ℕ) (d : Row) → k < size → k ≢ slot → slice_index_or now k d ≡ slice_index_or before k d

-- the slot of a record is not the next one, so its row stays
same_rows : (size slot next gap : ℕ) (records : List Record) (bytes : List ℕ) (before now : List Row) → SameBut size slot before now → next < 65536
    → slot ≡ (next + gap) % 65536 → gap + length records < 65536 → InOrder size next records → moments_in now records bytes ≡ moments_in before records bytes
unfolding moments_in
same_rows size slot next gap [] bytes before now same small here few order = refl
same_rows size slot next gap (newest ∷ older) bytes before now same small here few order =
    search (arith, rules, same_rows size slot (slot_before next) (gap + 1) older)

pub fewer_slots : (n size room next : ℕ) (records : List Record) → 0 < n → AreSlots size room next records → AreSlots size room next (take n records)
fewer_slots = search (arith, rules, in_order-take, length-take)

-- one moment alone keeps few bytes
pub alone_small : (size next : ℕ) (records : List Record) → InOrder size next records → length records ≤ 1 → sum_by entry_count records < 65536
alone_small size next [] order few = omega arith
alone_small size next (newest ∷ []) order few = omega (arith, sum_by-cons entry_count newest [], order.2)
alone_small size next (newest ∷ next_one ∷ older) order few = absurd (omega (arith, few))

pub slot_within : (size next : ℕ) (records : List Record) (i : ℕ) (r : Record) → InOrder size next records → slice_get records i ≡ Some r → r.slot < size
slot_within size next [] i r order is = cc
slot_within size next (newest ∷ older) zero r order is =
    let here : newest ≡ r = cc in
    rw (← here) order.1
slot_within size next (newest ∷ older) (suc i) r order is = slot_within size (slot_before next) older i r order.3 is

-- a part of a row
pub part_of : {X : Type 0} (part : Row → X) (kept : Option Kept) (row : Row) → option_map (λ k. row_in k) kept ≡ Some row
    → option_map (λ k. part (row_in k)) kept ≡ Some (part row)
part_of part (Some k) row is = let same : row_in k ≡ row = cc in ap (λ (z : Row). Some (part z)) same
part_of part None row is = cc

-- one record more, whose row was put into the next slot
pub put_moment : (size : ℕ) (newest : Record) (row : Row) (records : List Record) (bytes others : List ℕ) (before now : List Row)
    → SameBut size newest.slot before now → slice_index_or now newest.slot no_row ≡ row → newest.slot < 65536 → length records < 65536
    → InOrder size newest.slot records → length bytes ≡ entry_count newest
    → moments_in now (newest ∷ records) (bytes ++ others) ≡ moment_of newest row bytes ∷ moments_in before records others
put_moment size newest row records bytes others before now same here small few order count =
    moments-push now newest records bytes others count
    ∙ ap (λ (z : Row). moment_of newest z bytes ∷ moments_in now records others) here
    ∙ ap (λ (z : List Kept). moment_of newest row bytes ∷ z)
    (same_rows size newest.slot newest.slot 0 records others before now same small (omega arith) (omega arith) order)

pub put_slots : (size room slot more large next : ℕ) (newest : Record) (records : List Record) → AreSlots size room slot records → newest.slot ≡ slot
    → slot < 65536 → newest.span.count < 65536 → more ≡ cond (slot == size) (size + 1) size → 65536 ≤ large → next ≡ (slot + 1) % 65536
    → AreSlots more large next (newest ∷ records)
put_slots = search (arith, rules, in_order-more)
