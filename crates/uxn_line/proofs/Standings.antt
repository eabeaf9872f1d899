-- A line in which one machine had a turn more represents one more of it.
use Rattle.uxn_line.proofs.Common.{common_steps, handed, handed_at, ◌≡◌, ◌≢◌, ℕ, zero, suc, ◌↔◌, inl, inr, Bool, true, false, cond, List, [], ◌++◌}
use Rattle.uxn_line.proofs.Common.{length, sym, ap, ◌∙◌, arith, cases_eq, Some, slice_get, slice_set, Line, Member, Place, length-set}
use Rattle.uxn_line.proofs.Common.{slice_get_within, slice_get-set_same, slice_get-set_other, Buffer, PendingInput, KeepsRing, PlaceHasEnded, turn}
use Rattle.uxn_line.proofs.Common.{put_in, LineJob, after, MemberAt, member_has_ended, Turned, one_more, machine_place, ComeAfter, RingBefore, InLine}
use Rattle.uxn_line.proofs.Common.{LineRepresents, AreForConsole}
use Rattle.uxn_line.proofs.Handed.{handed-length, handed-other, handed-same}

-- where a machine stands after one turn more, in which it writes these bytes to port 18
abbrev pub next_of : LineJob → Turned → ℕ → Place
next_of job turned machine = turn job.budget (machine_place job turned machine)

abbrev pub Writes : LineJob → Turned → ℕ → List ℕ → Type 0
Writes job turned machine bytes = put_in (next_of job turned machine) ≡ put_in (machine_place job turned machine) ++ bytes

-- one more turn
pub more-here : (machine : ℕ) (turned : Turned) → one_more machine turned machine ≡ suc (turned machine)
more-here = grind (arith, common_steps)

pub more-apart : (machine : ℕ) (turned : Turned) (other : ℕ) → other ≢ machine → one_more machine turned other ≡ turned other
more-apart = grind (arith, common_steps)

pub place-more : (job : LineJob) (machine : ℕ) (turned : Turned)
    → machine_place job (one_more machine turned) machine ≡ turn job.budget (machine_place job turned machine)
place-more job machine turned = ap (after job machine) (more-here machine turned)

pub place-apart : (job : LineJob) (machine : ℕ) (turned : Turned) (other : ℕ) → other ≢ machine
    → machine_place job (one_more machine turned) other ≡ machine_place job turned other
place-apart job machine turned other apart = ap (after job other) (more-apart machine turned other apart)

-- a machine is known to be at its end
pub ended-is : (member : Member) (now : Place) → MemberAt member now → (member_has_ended member ≡ true) ↔ PlaceHasEnded now
ended-is member now at = grind (arith, common_steps)

pub not-ended : (member : Member) (now : Place) → MemberAt member now → member_has_ended member ≡ false → PlaceHasEnded now → ⊥
not-ended member now at goes ended = let e = (ended-is member now at).1 ended in cc

pub goes-on : (member : Member) (now : Place) → MemberAt member now → (PlaceHasEnded now → ⊥) → member_has_ended member ≡ false
goes-on = grind (arith, common_steps)

-- a machine whose turns, and those of the one before it, are the same is in line as before
ring-same : (over : Bool) (job : LineJob) (turned now : Turned) (machine : ℕ) (ring : List ℕ) → now machine ≡ turned machine
    → ((before : ℕ) → machine ≡ suc before → now before ≡ turned before) → RingBefore over job turned machine ring
    → RingBefore over job now machine ring
ring-same = grind (arith, common_steps)

-- what is left to a machine that had one more turn: of its ring, and of the script
abbrev pub Leaves : LineJob → Turned → ℕ → List ℕ → List PendingInput → List PendingInput → List PendingInput → Type 0
Leaves job turned zero items later script script_now = (items ≡ []) × (script_now ≡ later)
Leaves job turned (suc before) items later script script_now = ComeAfter job before (turned before) items later × (script_now ≡ script)

ring-more : (over : Bool) (job : LineJob) (turned : Turned) (machine : ℕ) (items : List ℕ) (script script_now : List PendingInput)
    → Leaves job turned machine items (next_of job turned machine).pending_inputs script script_now
    → RingBefore over job (one_more machine turned) machine (cond over [] items)
ring-more = grind (arith, common_steps)

script-more : (job : LineJob) (turned : Turned) (machine : ℕ) (items : List ℕ) (script script_now : List PendingInput)
    → Leaves job turned machine items (next_of job turned machine).pending_inputs script script_now
    → script ≡ (machine_place job turned 0).pending_inputs → script_now ≡ (machine_place job (one_more machine turned) 0).pending_inputs
script-more = grind (arith, common_steps)

-- the ring behind a machine that wrote these bytes more
ring-behind : (over : Bool) (job : LineJob) (turned : Turned) (machine : ℕ) (ring bytes : List ℕ) → Writes job turned machine bytes
    → RingBefore over job turned (suc machine) ring → RingBefore over job (one_more machine turned) (suc machine) (cond over ring (ring ++ bytes))
ring-behind = grind (arith, common_steps)

-- a line in which a machine became another by a turn, and the next one was handed bytes
pub record Moves (line line_now : Line) (machine : ℕ) (member now : Member) (bytes : List ℕ) : Type 0 where
  pub at : slice_get line.members.items machine ≡ Some member
  pub members : line_now.members.items ≡ slice_set (handed_at (suc machine) bytes line.members.items) machine now
  pub budget : line_now.budget ≡ line.budget

pub moves-count : (line line_now : Line) (machine : ℕ) (member now : Member) (bytes : List ℕ) → Moves line line_now machine member now bytes
    → length line_now.members.items ≡ length line.members.items
moves-count = grind (arith, common_steps, handed-length, length-set)

-- such a turn, for the numbers of turns that the line represents
pub record TurnsIn (job : LineJob) (turned : Turned) (line line_now : Line) (machine : ℕ) (member now : Member) (bytes : List ℕ) : Type 0 where
  pub stands : MemberAt now (next_of job turned machine)
  pub put : Writes job turned machine bytes
  pub items : List ℕ
  pub ring : KeepsRing member now items
  pub left : Leaves job turned machine items (next_of job turned machine).pending_inputs line.input_queue line_now.input_queue
  pub console : AreForConsole line_now.input_queue

pub stands-more : (job : LineJob) (turned : Turned) (line line_now : Line) (machine : ℕ) (member now : Member) (bytes : List ℕ)
    → LineRepresents job line turned → Moves line line_now machine member now bytes → TurnsIn job turned line line_now machine member now bytes
    → LineRepresents job line_now (one_more machine turned)
stands-more job turned line line_now machine member now bytes stands moves turns =
    let items = line.members.items in
    let all = handed_at (suc machine) bytes items in
    let within = slice_get_within items machine member moves.at in
    record {
      job_is = stands.job_is;
      some = stands.some;
      machines = moves-count line line_now machine member now bytes moves ∙ stands.machines;
      budget = moves.budget ∙ stands.budget;
      script = script-more job turned machine turns.items line.input_queue line_now.input_queue turns.left stands.script;
      console = turns.console;
      each = λ other found at_now.
          let at = ap (λ members. slice_get members other) (sym moves.members) ∙ at_now in
          elim (cases_eq other machine) [
            | inl here ↦
                let set = slice_get-set_same all machine now (omega (arith, within, handed-length bytes (suc machine) items)) in
                let same : now ≡ found = (let e = rw here at at in cc) in
                let own : InLine job (one_more machine turned) machine now = record {
                  stands = rw (place-more job machine turned) turns.stands;
                  ring = rw turns.ring (ring-more (member_has_ended now) job turned machine turns.items line.input_queue line_now.input_queue
                      turns.left);
                  room = ap (λ (r : Buffer ℕ). r.capacity) turns.ring ∙ (stands.each machine member moves.at).room;
                } in
                rw here (rw (← same) own)
            | inr apart ↦
                let there = sym (slice_get-set_other all machine other now apart) ∙ at in
                elim (cases_eq other (suc machine)) [
                  | inl behind ↦
                      let was = handed-same bytes (suc machine) items found (rw behind at there) in
                      let inline = stands.each (suc machine) was.0 was.1 in
                      let more : InLine job (one_more machine turned) (suc machine) (handed bytes was.0) = record {
                        stands = rw (place-apart job machine turned (suc machine) (λ same. omega arith)) (record {
                          stands = inline.stands.stands;
                          given = inline.stands.given;
                          state = inline.stands.state;
                        });
                        ring = ring-behind (member_has_ended was.0) job turned machine was.0.ring.items bytes turns.put inline.ring;
                        room = inline.room;
                      } in
                      rw behind (rw was.2 more)
                  | inr further ↦
                      let inline = stands.each other found (sym (handed-other bytes (suc machine) other items further) ∙ there) in
                      let same = more-apart machine turned other apart in
                      record {
                        stands = rw same inline.stands;
                        ring = ring-same (member_has_ended found) job turned (one_more machine turned) other found.ring.items same
                            (λ before is. more-apart machine turned before (λ same. further (is ∙ ap suc same))) inline.ring;
                        room = inline.room;
                      }
                ]
          ];
    }
