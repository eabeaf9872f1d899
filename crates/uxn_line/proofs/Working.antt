-- Each move makes the work left of a line less.
use Rattle.uxn_line.proofs.Common.{common_steps, mul-le-mul_right, handed, handed_at, MemberWasGiven, still_given, ◌≡◌, ℕ, zero, suc, ◌+◌, ◌<◌, ◌≤◌}
use Rattle.uxn_line.proofs.Common.{Bool, false, cond, List, [], ◌∷◌, arith, length, is_none, drop, Some, slice_get, slice_set, Member}
use Rattle.uxn_line.proofs.Common.{member_has_ended, KeepsRing, work, works, PendingInput}
use Rattle.uxn_line.proofs.Handed.{handed-longer}

-- where no more may be given to a machine it has no more work
work-mono : (budget before before_now less : ℕ) (member now : Member) → still_given before_now now ≤ still_given before member
    → now.machine.left + less ≤ member.machine.left → work budget before_now now + less ≤ work budget before member
work-mono = grind (arith, common_steps)

abbrev until_all : Bool → ℕ
until_all given = cond given 0 1

-- the ring holds no more than this where it is kept so or emptied
ring-within : (before now : Member) (items : List ℕ) → KeepsRing before now items → length now.ring.items ≤ length items
ring-within = grind (arith, common_steps)

-- one that was given what comes next
pub gives-less : (budget before before_now : ℕ) (member now : Member) (pending_input : PendingInput) (last : Bool) (left : List ℕ)
    → MemberWasGiven budget pending_input last left member now → member.machine.left ≡ 0 → member_has_ended member ≡ false
    → length left + before_now + until_all last ≤ length member.ring.items + before → work budget before_now now < work budget before member
gives-less budget before before_now member now pending_input last left given idle goes_on fewer =
    let less : still_given before_now now < still_given before member = grind (arith, common_steps, ring-within) in
    let product = mul-le-mul_right {m = suc (still_given before_now now)} {n = still_given before member} (budget + 1) less in
    omega arith

pub next-fewer : (before : ℕ) (ring : List ℕ)
    → length (drop 1 ring) + before + until_all (is_none (slice_get ring 0)) ≤ length ring + before
next-fewer = grind (arith, common_steps)

works-mono : (budget before before_now : ℕ) (members : List Member) → before_now ≤ before
    → works budget before_now members ≤ works budget before members
works-mono budget before before_now [] less = omega arith
works-mono budget before before_now (member ∷ members) less =
    let own = work-mono budget before before_now 0 member member (omega arith) (omega arith) in
    let rest = works-mono budget (work budget before member) (work budget before_now member) members (omega arith) in
    omega arith

-- what a machine hands on is paid for by its own work
handed-mono : (budget before before_now : ℕ) (bytes : List ℕ) (members : List Member) → before_now + length bytes ≤ before
    → works budget before_now (handed_at 0 bytes members) ≤ works budget before members
handed-mono budget before before_now bytes [] paid = omega arith
handed-mono budget before before_now bytes (next ∷ members) paid =
    let longer = handed-longer bytes next in
    let own = work-mono budget before before_now 0 next (handed bytes next) (omega arith) (omega arith) in
    let rest = works-mono budget (work budget before next) (work budget before_now (handed bytes next)) members (omega arith) in
    omega arith

-- the work of a line is less where it is less for one machine, which hands on a byte at most
module _ (budget : ℕ) (member now : Member) (bytes : List ℕ) (few : length bytes ≤ 1) where
  pub first-less : (before before_now : ℕ) (members : List Member) → slice_get members 0 ≡ Some member
      → work budget before_now now < work budget before member
      → works budget before_now (slice_set (handed_at 1 bytes members) 0 now) < works budget before members
  first-less before before_now [] there less = absurd (cc)
  first-less before before_now (first ∷ members) there less =
      let same : first ≡ member = cc in
      let rest = handed-mono budget (work budget before member) (work budget before_now now) bytes members (omega arith) in
      rw same (omega arith)

  pub works-less : (before : ℕ) (members : List Member) (place : ℕ) → slice_get members place ≡ Some member
      → ((left : ℕ) → work budget left now < work budget left member)
      → works budget before (slice_set (handed_at (suc place) bytes members) place now) < works budget before members
  works-less before [] place there less = absurd (cc)
  works-less before (first ∷ members) zero there less = first-less before before (first ∷ members) there (less before)
  works-less before (first ∷ members) (suc place) there less =
      let rest = works-less (work budget before first) members place there less in omega arith
