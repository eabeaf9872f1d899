-- A machine of a line that was given what comes next, or waits for it.
use Rattle.uxn_line.proofs.Common.{common_steps, list_all, and_parts, append_cancel_left, IsOpen, MemberWasGiven, ◌≡◌, ◌≢◌, ℕ, suc, ◌+◌, ◌<◌, ◌≤◌}
use Rattle.uxn_line.proofs.Common.{◌↔◌, Bool, true, false, cond, List, [], ◌∷◌, drop, length, get_or, refl, sym, ap, ◌∙◌, arith, append-nil, Some}
use Rattle.uxn_line.proofs.Common.{None, is_none, slice_get, slice_set, is_over, Line, Gave, Waits, Member, Place, PlaceHasEnded, IsForConsole}
use Rattle.uxn_line.proofs.Common.{put_in, LineJob, MemberAt, member_has_ended, next_pending, OpenAt, Turned, machine_place, RingBefore}
use Rattle.uxn_line.proofs.Common.{LineRepresents, IsWaiting, ring_of, Came, work_left, PendingInput, AreForConsole, is_for_console}
use Rattle.uxn_line.proofs.Coming.{comes, next-is-of-console}
use Rattle.uxn_line.proofs.Handed.{handed-none, put-none}
use Rattle.uxn_line.proofs.Running.{found-is, with_member, move-came, still-came}
use Rattle.uxn_line.proofs.Standings.{ended-is, not-ended, Leaves}
use Rattle.uxn_line.proofs.MachineTurns.{turn-given}
use Rattle.uxn_line.proofs.Turning.{follows}
use Rattle.uxn_line.proofs.Working.{gives-less, next-fewer, first-less, works-less}

-- the member that was found where a machine is idle and not at its end
pub found-open : (line : Line) (machine : ℕ) (found : Member) → IsOpen line machine → found ≡ get_or line.members.items machine found
    → OpenAt line machine found
found-open line machine found is read = rw (found-is line.members.items machine found is.0 read is.1.there) is.1

-- where it stands
pub record IdleAt (place : Place) : Type 0 where
  pub idle : place.left ≡ 0
  pub goes_on : is_over place.done.last ≡ false
  pub some : place.pending_inputs ≢ []

pub idle-at : (member : Member) (place : Place) → MemberAt member place → member.machine.left ≡ 0 → member_has_ended member ≡ false → IdleAt place
idle-at = grind (arith, common_steps)

-- what it was given is what comes next
pub record Takes (job : LineJob) (turned : Turned) (line line_now : Line) (machine : ℕ) (pending_input : PendingInput) (last : Bool)
    (left : List ℕ) : Type 0 where
  pub later : List PendingInput
  pub are : (machine_place job turned machine).pending_inputs ≡ pending_input ∷ later
  pub for_console : IsForConsole pending_input
  pub is_last : (last ≡ true) ↔ (later ≡ [])
  pub console : AreForConsole line_now.input_queue
  pub leaves : Leaves job turned machine left later line.input_queue line_now.input_queue
  pub comes : IsWaiting job line turned machine → ⊥

pub give-came : (line line_now : Line) (machine : ℕ) (member now : Member) (pending_input : PendingInput) (last : Bool) (left : List ℕ)
    → OpenAt line machine member → line_now.members.items ≡ slice_set line.members.items machine now → line_now.budget ≡ line.budget
    → MemberWasGiven line.budget pending_input last left member now
    → ((job : LineJob) (turned : Turned) → LineRepresents job line turned → Takes job turned line line_now machine pending_input last left)
    → work_left line_now < work_left line → Came machine Gave [] line line_now
give-came line line_now machine member now pending_input last left found members budget given takes less =
    rw (put-none line machine) at (move-came line line_now machine member now Gave [] (record {
      at = found.there;
      members = rw (handed-none (suc machine) line.members.items) members;
      budget = budget;
    }) refl (λ job turned stands.
    let place = machine_place job turned machine in
    let at = (stands.each machine member found.there).stands in
    let idle = idle-at member place at found.idle found.goes_on in
    let took = takes job turned stands in
    let turned_now = turn-given job.budget place pending_input took.later idle.idle took.are idle.goes_on took.for_console in (
      record { idle = idle.idle; goes_on = not-ended member place at found.goes_on; comes = took.comes },
      record {
        stands = rw stands.budget at (given.stands place took.later at took.are took.for_console took.is_last idle.goes_on);
        put = turned_now.1 ∙ sym (append-nil (put_in place));
        items = left;
        ring = given.ring;
        left = rw turned_now.0 took.leaves;
        console = took.console;
      },
    )) less)

pub first-is : {X : Type 0} (items : List X) (item : X) → slice_get items 0 ≡ Some item → items ≡ item ∷ drop 1 items
first-is = grind (arith, common_steps)

pub none-is : {X : Type 0} (items : List X) → slice_get items 0 ≡ None → items ≡ []
none-is [] is = refl
none-is (first ∷ items) is = absurd (cc)

-- the first machine is given what comes next of the script
pub first-came : (line line_now : Line) (member now : Member) (pending_input : PendingInput) (last : Bool) → OpenAt line 0 member
    → line_now.members.items ≡ slice_set line.members.items 0 now → line_now.budget ≡ line.budget
    → slice_get line.input_queue 0 ≡ Some pending_input → line_now.input_queue ≡ drop 1 line.input_queue
    → (last ≡ true) ↔ (line_now.input_queue ≡ [])
    → MemberWasGiven line.budget pending_input last member.ring.items member now → Came 0 Gave [] line line_now
first-came line line_now member now pending_input last found members budget taken rest is_last given =
    let queue : line.input_queue ≡ pending_input ∷ line_now.input_queue = first-is line.input_queue pending_input taken
    ∙ ap (λ later. pending_input ∷ later) (sym rest) in
    let shorter : length line.input_queue ≡ suc (length line_now.input_queue) = ap length queue in
    give-came line line_now 0 member now pending_input last member.ring.items found members budget given (λ job turned stands.
    let are = sym stands.script ∙ queue in
    let console = and_parts (is_for_console pending_input) (list_all is_for_console line_now.input_queue) (rw queue at stands.console) in
    record {
      later = line_now.input_queue;
      are = are;
      for_console = console.0;
      console = console.1;
      is_last = is_last;
      leaves = (rw found.goes_on at (stands.each 0 member found.there).ring, refl);
      comes = λ waits. waits.comes;
    })
    (rw (members, budget) (rw (handed-none 1 line.members.items) at (first-less line.budget member now [] (omega arith) (length line.input_queue)
    (length line_now.input_queue) line.members.items found.there
    (gives-less line.budget (length line.input_queue) (length line_now.input_queue) member now pending_input last member.ring.items given
    found.idle found.goes_on (elim last as
    (λ b. length member.ring.items + length line_now.input_queue + cond b 0 1 ≤ length member.ring.items + length line.input_queue)
    [ true ↦ omega arith | false ↦ omega arith ])))))

-- a machine whose ring is empty waits while the run of the one before it goes on
pub behind-waits : (line : Line) (before : ℕ) (last member : Member) → OpenAt line (suc before) member
    → slice_get line.members.items before ≡ Some last → member.ring.items ≡ [] → member_has_ended last ≡ false → Came (suc before) Waits [] line line
behind-waits line before last member found there none goes = still-came line (suc before) Waits refl (λ job turned stands.
    grind (arith, common_steps, not-ended, stands.each (suc before) member found.there, stands.each before last there))

-- else it is given the first byte of its ring, or the end
pub behind-gives : (line : Line) (before : ℕ) (last member now : Member) → OpenAt line (suc before) member
    → slice_get line.members.items before ≡ Some last → (member.ring.items ≡ [] → member_has_ended last ≡ true)
    → MemberWasGiven line.budget (next_pending (slice_get member.ring.items 0)) (is_none (slice_get member.ring.items 0))
    (drop 1 member.ring.items) member now → Came (suc before) Gave [] line (with_member line (suc before) now)
behind-gives line before last member now found there ended given =
    let items = line.members.items in
    let ring = member.ring.items in
    let over : (job : LineJob) (turned : Turned) → LineRepresents job line turned → ring ≡ [] → PlaceHasEnded (machine_place job turned before)
    = λ job turned stands none. (ended-is last (machine_place job turned before) (stands.each before last there).stands).0 (ended none) in
    give-came line (with_member line (suc before) now) (suc before) member now (next_pending (slice_get ring 0)) (is_none (slice_get ring 0))
    (drop 1 ring) found refl refl given (λ job turned stands.
    let inline = stands.each (suc before) member found.there in
    let idle = idle-at member (machine_place job turned (suc before)) inline.stands found.idle found.goes_on in
    let run = follows job stands.job_is before (turned before) in
    let holds : RingBefore false job turned (suc before) ring = rw found.goes_on at inline.ring in
    let next = comes ring run.rest (machine_place job turned (suc before)).pending_inputs (holds run.rest run.prefix) idle.some
    (λ none. (run.end (over job turned stands none)).0) in
    record {
      later = next.later;
      are = next.are;
      for_console = next-is-of-console (slice_get ring 0);
      console = stands.console;
      is_last = next.last;
      leaves = (
        λ rest whole.
            let is : run.rest ≡ rest = append_cancel_left (put_in (machine_place job turned before)) run.rest rest (sym run.prefix ∙ whole) in
            rw (← is) next.to_come,
        refl,
      );
      comes = λ waits. waits.comes (over job turned stands (ap ring_of (sym found.there) ∙ waits.nothing));
    })
    (rw (handed-none (suc (suc before)) items) at (works-less line.budget member now [] (omega arith) (length line.input_queue) items (suc before)
    found.there (λ left. gives-less line.budget left left member now (next_pending (slice_get ring 0)) (is_none (slice_get ring 0))
    (drop 1 ring) given found.idle found.goes_on (next-fewer left ring))))
