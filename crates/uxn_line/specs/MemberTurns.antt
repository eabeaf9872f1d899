-- What a turn does to a machine in a line and to its ring (profile).
use Rattle.std.specs.Prelude.{◌≡◌, ◌↔◌, ℕ, ◌≤◌, if◌then◌else◌, Bool, true, false, List, [], ◌∷◌, ◌++◌}
use Rattle.circular_buffer.specs.Buffer.{buffer}
use Rattle.vector_loop.specs.State.{is_over}
use Rattle.vector_loop.specs.declared.pending_input.PendingInput.{PendingInput}
use Rattle.vector_loop.specs.Places.{Place}
use Rattle.uxn_line.specs.declared.member.Member.{Member}
use Rattle.uxn_line.specs.Places.{turn, put_in, IsForConsole}
use Rattle.uxn_line.specs.Machines.{handed_on}
use Rattle.uxn_line.specs.Members.{MemberAt, member_has_ended}

-- its ring holds these bytes, or none where its run is over then
abbrev pub KeepsRing : Member → Member → List ℕ → Type 0
KeepsRing before now items = now.ring ≡ buffer (if member_has_ended now then [] else items) before.ring.capacity

-- it ran an instruction
pub record HasRun (before now : Member) : Type 0 where
  pub stands : (budget : ℕ) (place : Place) → MemberAt before place → MemberAt now (turn budget place)
  pub put : (budget : ℕ) (place : Place) → MemberAt before place → put_in (turn budget place) ≡ put_in place ++ handed_on before.machine.core
  pub ring : KeepsRing before now before.ring.items

-- it was given what comes next, and that was the last or not; these bytes of its ring are left
pub record MemberWasGiven (budget : ℕ) (pending_input : PendingInput) (last : Bool) (left : List ℕ) (before now : Member) : Type 0 where
  pub stands : (place : Place) (pending_inputs : List PendingInput) → MemberAt before place
      → place.pending_inputs ≡ pending_input ∷ pending_inputs
      → IsForConsole pending_input
      → (last ≡ true) ↔ (pending_inputs ≡ []) → is_over place.done.last ≡ false → MemberAt now (turn budget place)
  pub ring : KeepsRing before now left
  pub most : now.machine.left ≤ budget
  pub given : now.all_given ≡ last
