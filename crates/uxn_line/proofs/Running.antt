-- What comes of a turn of a line, and of one in which a machine runs an instruction.
use Rattle.uxn_line.proofs.Common.{common_steps, slice_get-some, Moved, handed_on, Cause, Fails, HasTurned, is_move, HasRun, put_from, HandedOn}
use Rattle.uxn_line.proofs.Common.{KeptBack, WasNotPut, ◌≡◌, ◌≢◌, ℕ, zero, suc, ◌<◌, ◌≤◌, true, false, List, [], ◌++◌, length, get_or, refl, sym, ap}
use Rattle.uxn_line.proofs.Common.{◌∙◌, arith, Some, slice_get, get_or_from_slice_get, slice_get_read, slice_get_within, sink-as-it-was}
use Rattle.uxn_line.proofs.Common.{SinkState, Line, Ran, Held, Member, put_in, LineJob, member_has_ended, Turned, one_more, machine_place, RingBefore}
use Rattle.uxn_line.proofs.Common.{LineRepresents, written_in, MachineIsHeld, Came, work, work_left}
use Rattle.std.specs.Vec.{with_item}
use Rattle.uxn_line.proofs.Handed.{handed-other}
use Rattle.uxn_line.proofs.MachineTurns.{run-pending_inputs}
use Rattle.uxn_line.proofs.Working.{works-less}
use Rattle.uxn_line.proofs.Standings.{not-ended, goes-on, Leaves, Moves, moves-count, TurnsIn, stands-more, next_of, Writes}

-- the item that was found at a place
pub found-is : {X : Type 0} (items : List X) (place : ℕ) (found item : X) → found ≡ get_or items place found → slice_get items place ≡ Some item
    → found ≡ item
found-is items place found item read there = read ∙ get_or_from_slice_get items place item found there

-- what the last machine has written where a machine wrote these bytes more
wrote-more : (job : LineJob) (line : Line) (turned : Turned) (machine : ℕ) (bytes : List ℕ) → LineRepresents job line turned
    → Writes job turned machine bytes → written_in job (one_more machine turned) ≡ written_in job turned ++ put_from line machine bytes
wrote-more = grind (arith, common_steps)

-- a line with another member at a place
abbrev pub with_member : Line → ℕ → Member → Line
with_member line machine now = record line { members = with_item line.members machine now }

-- whatever moved a machine
pub move-came : (line line_now : Line) (machine : ℕ) (member now : Member) (moved : Moved) (bytes : List ℕ)
    → Moves line line_now machine member now bytes → is_move moved ≡ true
    → ((job : LineJob) (turned : Turned) → LineRepresents job line turned
    → Cause job line turned machine moved × TurnsIn job turned line line_now machine member now bytes)
    → work_left line_now < work_left line → Came machine moved (put_from line machine bytes) line line_now
move-came line line_now machine member now moved bytes moves is turns less = record {
  cause = λ job turned stands. (turns job turned stands).0;
  leads = λ job turned stands.
      let turns_now = (turns job turned stands).1 in
      rw is (
        stands-more job turned line line_now machine member now bytes stands moves turns_now,
        wrote-more job line turned machine bytes stands turns_now.put,
      );
  works = rw is less;
  machines = moves-count line line_now machine member now bytes moves;
}

-- and where none moved
pub still-came : (line : Line) (machine : ℕ) (moved : Moved) → is_move moved ≡ false
    → ((job : LineJob) (turned : Turned) → LineRepresents job line turned → Cause job line turned machine moved) → Came machine moved [] line line
still-came = grind (arith, common_steps)

-- a machine at a place of a line is in a vector, and its next instruction writes these bytes to port 18
pub record RunsAt (bytes : List ℕ) (line : Line) (machine : ℕ) (member : Member) : Type 0 where
  pub there : slice_get line.members.items machine ≡ Some member
  pub vector : 0 < member.machine.left
  pub writes : handed_on member.machine.core ≡ bytes

pub runs-at : (bytes : List ℕ) (line : Line) (machine : ℕ) (member : Member) → machine < length line.members.items
    → member ≡ get_or line.members.items machine member → member.machine.left ≢ 0 → bytes ≡ handed_on member.machine.core
    → RunsAt bytes line machine member
runs-at = grind (arith, common_steps, slice_get_read)

module _ (bytes : List ℕ) (line : Line) (machine : ℕ) (member : Member) (runs : RunsAt bytes line machine member) where
  -- so it is not at its end
  goes : member_has_ended member ≡ false
  goes = grind (arith, common_steps)

  run-leaves : (job : LineJob) (turned : Turned) → LineRepresents job line turned
      → Leaves job turned machine member.ring.items (next_of job turned machine).pending_inputs line.input_queue line.input_queue
  run-leaves job turned stands =
      let inline = stands.each machine member runs.there in
      by machine (rw goes at inline.ring) (run-pending_inputs job.budget member.machine (machine_place job turned machine) runs.vector
      inline.stands.stands)
    where
      by : (at : ℕ) → RingBefore false job turned at member.ring.items
          → (next_of job turned at).pending_inputs ≡ (machine_place job turned at).pending_inputs
          → Leaves job turned at member.ring.items (next_of job turned at).pending_inputs line.input_queue line.input_queue
      by zero ring same = (ring, stands.script ∙ sym same)
      by (suc before) ring same = (rw same ring, refl)

  -- it is found again once its bytes were handed on
  pub found-same : (between : Line) (out out_now : SinkState) (found : Member) → HandedOn machine bytes line between out out_now
      → found ≡ get_or between.members.items machine found → found ≡ member
  found-same = grind (arith, common_steps, found-is, handed-other)

  -- its bytes were handed on, and it ran
  pub ran-came : (between : Line) (out out_now : SinkState) (found now : Member) → HandedOn machine bytes line between out out_now
      → length bytes ≤ 1 → found ≡ get_or between.members.items machine found → HasRun found now
      → ((budget left : ℕ) → work budget left now < work budget left found)
      → HasTurned machine Ran line (with_member between machine now) out out_now
  ran-came between out out_now found now handed few read ran less =
      let items = line.members.items in
      let same = found-same between out out_now found handed read in
      let has_run = rw same at ran in
      let less_now = rw same at less in
      record {
        bytes = put_from line machine bytes;
        put = handed.put;
        came = move-came line (with_member between machine now) machine member now Ran bytes
            (record { at = runs.there; members = rw handed.members refl; budget = handed.budget }) refl (λ job turned stands.
            let inline = stands.each machine member runs.there in
            let place = machine_place job turned machine in
            let free : MachineIsHeld job line turned machine → ⊥ = λ held.
            let next = slice_get-some items (suc machine) (omega arith) in
            let behind = stands.each (suc machine) next.0 next.1 in
            grind (arith, common_steps, goes-on, handed.room next.0 next.1, inline) in (
              record { vector = omega arith; free = free },
              record {
                stands = has_run.stands job.budget place inline.stands;
                put = has_run.put job.budget place inline.stands ∙ ap (λ b. put_in place ++ b) runs.writes;
                items = member.ring.items;
                ring = has_run.ring;
                left = rw handed.script (run-leaves job turned stands);
                console = rw handed.script stands.console;
              },
            ))
            (rw (handed.members, handed.budget, handed.script) (works-less line.budget member now bytes few (length line.input_queue) items machine
            runs.there (less_now line.budget)));
      }

  -- it is held
  pub held-came : (now : Line) (out out_now : SinkState) → KeptBack machine bytes line now out out_now
      → HasTurned machine Held line now out out_now
  held-came now out out_now kept = rw (kept.same, kept.same_out) (record {
    bytes = [];
    put = sink-as-it-was out;
    came = still-came line machine Held refl (λ job turned stands.
        let within = slice_get_within line.members.items (suc machine) kept.next kept.there in
        grind (arith, common_steps, not-ended, stands.each machine member runs.there, stands.each (suc machine) kept.next kept.there));
  })

  -- its byte was not put
  pub put-fails : (now : Line) (out out_now : SinkState) → WasNotPut machine bytes line now out out_now → Fails machine line now out out_now
  put-fails now out out_now failed = record {
    same = failed.same;
    byte = failed.byte;
    put = failed.put;
    cause = λ job turned stands. grind (arith, common_steps, stands.each machine member runs.there);
  }
