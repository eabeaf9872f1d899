-- What a machine in a line represents, with what was handed to it (profile).
use Rattle.std.specs.Prelude.{◌≡◌, ◌↔◌, ℕ, zero, suc, ◌==◌, ◌&&◌, ◌||◌, not, if◌then◌else◌}
use Rattle.std.specs.Prelude.{Bool, true, false, List, [], ◌∷◌, ◌++◌, Option, Some}
use Rattle.std.specs.Prelude.{None, slice_get}
use Rattle.uxn_limits.specs.declared.ports.TheConstants.{SYSTEM_STATE}
use Rattle.circular_buffer.specs.Buffer.{buffer}
use Rattle.text_lines.specs.declared.script.Event.TheVariants.{Input, EndInput}
use Rattle.text_lines.specs.declared.script.Clock.{Clock}
use Rattle.text_lines.specs.Scripts.{ScriptView}
use Rattle.vector_loop.specs.PendingInputs.{pending_inputs_of}
use Rattle.varvara_bus.specs.History.{stored}
use Rattle.uxn_line.specs.declared.member.Member.{Member}
use Rattle.vector_loop.specs.declared.pending_input.PendingInput.{PendingInput}
use Rattle.vector_loop.specs.declared.pending_input.PendingInput.TheVariants.{OfEvent}
use Rattle.vector_loop.specs.Places.{Place}
use Rattle.uxn_line.specs.Machines.{MachineRepresents}
use Rattle.uxn_line.specs.declared.line.Line.{Line}

-- its machine stands at a place of a run; it is known whether all was given, and of an idle machine its state
pub record MemberAt (member : Member) (now : Place) : Type 0 where
  pub stands : MachineRepresents member.machine now
  pub given : (member.all_given ≡ true) ↔ (now.pending_inputs ≡ [])
  pub state : now.left ≡ 0 → member.state ≡ stored now.done.last.devices.history SYSTEM_STATE

-- a machine of a script has these arguments and this clock, and whether nothing is given to it
pub record BeginsWith (script : ScriptView) (texts : List (List ℕ)) (clock : Clock) (all_given : Bool) : Type 0 where
  pub arguments_are : script.arguments ≡ texts
  pub clock_is : script.clock ≡ clock
  pub given : (all_given ≡ true) ↔ (pending_inputs_of script ≡ [])

-- its run is over
abbrev pub member_has_ended : Member → Bool
member_has_ended member = member.machine.left == 0 && (not (member.state == 0) || member.all_given)

-- what comes next to a machine of whose ring this is the first byte, where it waits for nothing: the byte, or the end where there is none
abbrev pub next_pending : Option ℕ → PendingInput
next_pending None = OfEvent EndInput
next_pending (Some byte) = OfEvent (Input byte)

-- once it was handed bytes its ring holds them too, unless its run is over
abbrev pub handed : List ℕ → Member → Member
handed bytes member = record member {
  ring = buffer (if member_has_ended member then member.ring.items else member.ring.items ++ bytes) member.ring.capacity;
}

-- the machines of a line once the one at a place was handed bytes, if there is one
abbrev pub handed_at : ℕ → List ℕ → List Member → List Member
handed_at place bytes [] = []
handed_at zero bytes (member ∷ members) = handed bytes member ∷ members
handed_at (suc place) bytes (member ∷ members) = member ∷ handed_at place bytes members

-- a machine at a place of a line is idle, and its run is not over
pub record OpenAt (line : Line) (machine : ℕ) (member : Member) : Type 0 where
  pub there : slice_get line.members.items machine ≡ Some member
  pub idle : member.machine.left ≡ 0
  pub goes_on : member_has_ended member ≡ false

abbrev pub IsOpen : Line → ℕ → Type 0
IsOpen line machine = (member : Member) × OpenAt line machine member
