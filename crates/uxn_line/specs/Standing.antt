-- Which numbers of turns a line of machines represents (profile).
use Rattle.std.specs.Prelude.{◌≡◌, ℕ, zero, suc, ◌==◌, ◌≤◌, ◌⊎◌, if◌then◌else◌, Bool, true}
use Rattle.std.specs.Prelude.{false, List, [], ◌∷◌, ◌++◌, length, map, slice_get, Some}
use Rattle.text_lines.specs.declared.script.Event.TheVariants.{Input, EndInput}
use Rattle.text_lines.specs.ScriptHeld.{bytes_in}
use Rattle.text_lines.specs.Scripts.{ScriptView}
use Rattle.uxn_io_traits.specs.ByteList.{ByteList}
use Rattle.uxn_line.specs.declared.line.Line.{Line}
use Rattle.uxn_line.specs.declared.member.Member.{Member}
use Rattle.vector_loop.specs.Places.{Place}
use Rattle.uxn_line.specs.Places.{AreForConsole, put_in}
use Rattle.vector_loop.specs.declared.pending_input.PendingInput.{PendingInput}
use Rattle.vector_loop.specs.declared.pending_input.PendingInput.TheVariants.{OfEvent}
use Rattle.uxn_line.specs.Streams.{LineJob, IsJob, stream, after}
use Rattle.uxn_line.specs.Members.{MemberAt, member_has_ended}

-- how many turns each machine was given; machines are counted from 0
abbrev pub Turned : Type 0
Turned = ℕ → ℕ

abbrev pub none_turned : Turned
none_turned machine = 0

abbrev pub one_more : ℕ → Turned → Turned
one_more machine turned other = if other == machine then suc (turned other) else turned other

-- where a machine stands after its turns
abbrev pub machine_place : LineJob → Turned → ℕ → Place
machine_place job turned machine = after job machine (turned machine)

-- bytes as inputs, and then the end
abbrev pub inputs : List ℕ → List PendingInput
inputs bytes = map OfEvent (map (λ byte. Input byte) bytes ++ EndInput ∷ [])

-- what a machine is still to be given where the ring before it holds these bytes and these are not written yet: all of them and the end, or
-- nothing once the end was given
abbrev pub AreToCome : List ℕ → List ℕ → List PendingInput → Type 0
AreToCome ring rest pending_inputs = (pending_inputs ≡ inputs (ring ++ rest)) ⊎ ((pending_inputs ≡ []) × ((ring ≡ []) × (rest ≡ [])))

-- the same by what is not written yet after so many turns of the machine before
abbrev pub ComeAfter : LineJob → ℕ → ℕ → List ℕ → List PendingInput → Type 0
ComeAfter job machine count ring pending_inputs =
    (rest : List ℕ) → stream job machine ≡ put_in (after job machine count) ++ rest → AreToCome ring rest pending_inputs

-- the ring before a machine, by whether the run of that is over: what the one before it has written to port 18 and it was not given, or
-- nothing where its run is over, and before the first one
abbrev pub RingBefore : Bool → LineJob → Turned → ℕ → List ℕ → Type 0
RingBefore true job turned machine ring = ring ≡ []
RingBefore false job turned zero ring = ring ≡ []
RingBefore false job turned (suc machine) ring = ComeAfter job machine (turned machine) ring (machine_place job turned (suc machine)).pending_inputs

-- a machine with the ring before it, which has room for 256 bytes
pub record InLine (job : LineJob) (turned : Turned) (machine : ℕ) (member : Member) : Type 0 where
  pub stands : MemberAt member (machine_place job turned machine)
  pub ring : RingBefore (member_has_ended member) job turned machine member.ring.items
  pub room : member.ring.capacity ≡ 256

-- a line represents these numbers of turns: each machine stands where its turns lead, and all that the script still gives is for the console
pub record LineRepresents (job : LineJob) (line : Line) (turned : Turned) : Type 0 where
  pub job_is : IsJob job
  pub some : 2 ≤ length job.roms
  pub machines : length line.members.items ≡ length job.roms
  pub budget : line.budget ≡ job.budget
  pub script : line.input_queue ≡ (machine_place job turned 0).pending_inputs
  pub console : AreForConsole line.input_queue
  pub each : (machine : ℕ) (member : Member) → slice_get line.members.items machine ≡ Some member → InLine job turned machine member

-- the job of a line of these ROMs
abbrev pub line_job : List ByteList → ScriptView → ℕ → LineJob
line_job texts given number = record { roms = bytes_in texts; script = given; budget = number }
