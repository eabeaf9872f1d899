-- The machines of a line once one of them was handed bytes.
use Rattle.uxn_line.proofs.Common.{common_steps, option_to_list, put_from, handed, handed_at, ◌≡◌, ◌≢◌, ℕ, zero, suc, ◌+◌, ◌≤◌, true, false, cond}
use Rattle.uxn_line.proofs.Common.{List, [], ◌∷◌, length, refl, ap, arith, add-one, get_or, Option, Some, slice_get, slice_get_read, slice_set, Line}
use Rattle.uxn_line.proofs.Common.{Member, ◌==◌, ◌<◌}

handed-nothing : (member : Member) → handed [] member ≡ member
handed-nothing = grind (arith, common_steps)

pub handed-longer : (bytes : List ℕ) (member : Member) → length (handed bytes member).ring.items ≤ length member.ring.items + length bytes
handed-longer = grind (arith, common_steps)

pub handed-none : (place : ℕ) (members : List Member) → handed_at place [] members ≡ members
handed-none place [] = refl
handed-none zero (member ∷ members) = ap (λ m. m ∷ members) (handed-nothing member)
handed-none (suc place) (member ∷ members) = ap (λ all. member ∷ all) (handed-none place members)

module _ (bytes : List ℕ) where
  pub handed-past : (place : ℕ) (members : List Member) → length members ≤ place → handed_at place bytes members ≡ members
  handed-past place [] past = refl
  handed-past zero (member ∷ members) past = absurd (omega arith)
  handed-past (suc place) (member ∷ members) past = ap (λ all. member ∷ all) (handed-past place members (omega arith))

  pub handed-set : (place : ℕ) (members : List Member) (member : Member) → slice_get members place ≡ Some member
      → slice_set members place (handed bytes member) ≡ handed_at place bytes members
  handed-set place [] member there = refl
  handed-set zero (first ∷ members) member there = (let same : member ≡ first = cc in ap (λ m. handed bytes m ∷ members) same)
  handed-set (suc place) (first ∷ members) member there = ap (λ all. first ∷ all) (handed-set place members member there)

  pub handed-other : (place other : ℕ) (members : List Member) → other ≢ place
      → slice_get (handed_at place bytes members) other ≡ slice_get members other
  handed-other place other [] apart = refl
  handed-other zero zero (member ∷ members) apart = absurd (apart refl)
  handed-other zero (suc other) (member ∷ members) apart = refl
  handed-other (suc place) zero (member ∷ members) apart = refl
  handed-other (suc place) (suc other) (member ∷ members) apart = handed-other place other members (λ same. apart (ap suc same))

  pub handed-same : (place : ℕ) (members : List Member) (now : Member) → slice_get (handed_at place bytes members) place ≡ Some now
      → (member : Member) × (slice_get members place ≡ Some member) × (now ≡ handed bytes member)
  handed-same place [] now there = absurd (cc)
  handed-same zero (member ∷ members) now there = (member, refl, cc)
  handed-same (suc place) (member ∷ members) now there = handed-same place members now there

  pub handed-length : (place : ℕ) (members : List Member) → length (handed_at place bytes members) ≡ length members
  handed-length place [] = refl
  handed-length zero (member ∷ members) = refl
  handed-length (suc place) (member ∷ members) = ap suc (handed-length place members)

-- one byte at most is handed on at a time, and of no bytes none is put
pub few-bytes : (byte : Option ℕ) → length (option_to_list byte) ≤ 1
few-bytes = grind (arith, common_steps)

pub put-none : (line : Line) (machine : ℕ) → put_from line machine [] ≡ []
put-none line machine = elim (suc machine == length line.members.items) as (λ b. cond {A = List ℕ} b [] [] ≡ []) [ true ↦ refl | false ↦ refl ]

-- the item that was read at the place behind
pub read-behind : {X : Type 0} (items : List X) (place : ℕ) (found : X) → place + 1 < length items → found ≡ get_or items (place + 1) found
    → slice_get items (suc place) ≡ Some found
read-behind items place found within read = rw (add-one place) at (slice_get_read items (length items) (place + 1) found refl within read)
