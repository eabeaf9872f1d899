-- What a line has put is a prefix of the stream of its last machine.
use Rattle.uxn_line.proofs.Common.{common_steps, ◌*◌, turned_by, is_move, Cause, Fails, Goes, HasTurned, TurnCame, StaysUnderWay}
use Rattle.uxn_line.proofs.Common.{ring_before, LineFinishes, WorksOn, slice_get-some, is_err, sink-then, Moved, handed_on, ◌≡◌, ℕ, suc, ◌+◌, ◌-◌}
use Rattle.uxn_line.proofs.Common.{◌<◌, Bool, true, false, List, [], ◌∷◌, ◌++◌, sym, ap, subst, ◌∙◌, arith, append_assoc, length, Result, Ok}
use Rattle.uxn_line.proofs.Common.{Err, SinkEnded, sink-as-it-was, SinkState, Line, PlaceHasEnded, put_in, LineJob, stream, Turned, machine_place}
use Rattle.uxn_line.proofs.Common.{IsStill, LineRepresents, LineStops, last_machine, written_in, IsWaiting, MachineIsHeld, WritesLast, IsUnderWay}
use Rattle.uxn_line.proofs.Common.{zero, exit_code_at, append-nil, LineReaches, work_left}
use Rattle.uxn_io_traits.specs.declared.sinks.Failed.{Failed}
use Rattle.uxn_line.proofs.MachineTurns.{run-put}
use Rattle.uxn_line.proofs.Turning.{follows, ended-whole}

pub move-still : (line : Line) (machine : ℕ) (moved : Moved) → is_move moved ≡ false
    → ((job : LineJob) (turned : Turned) → LineRepresents job line turned → Cause job line turned machine moved) → IsStill line machine
move-still = grind (arith, common_steps)

-- where the last machine writes a byte its stream goes on with it
goes-on-with : (job : LineJob) (line : Line) (turned : Turned) (machine byte : ℕ) → LineRepresents job line turned
    → WritesLast job turned machine byte
    → (rest : List ℕ) × (stream job (last_machine job) ≡ written_in job turned ++ byte ∷ rest)
goes-on-with job line turned machine byte stands writes =
    let there = slice_get-some line.members.items machine (omega arith) in
    let at = (stands.each machine there.0 there.1).stands.stands in
    let place = machine_place job turned machine in
    let put = run-put job.budget there.0.machine place (omega arith) at in
    let run = follows job stands.job_is machine (suc (turned machine)) in
    let bytes = ap (λ c. handed_on c) at.core ∙ writes.writes in
    let same : machine ≡ last_machine job = omega arith in
    let P : ℕ → Type 0 = λ m. (rest : List ℕ) × (stream job m ≡ put_in (machine_place job turned m) ++ byte ∷ rest) in
    subst P same (
      run.rest,
      run.prefix ∙ ap (λ all. all ++ run.rest) (put ∙ ap (λ b. put_in place ++ b) bytes) ∙ append_assoc (put_in place) (byte ∷ []) run.rest,
    )

-- some turns, and then others
pub reach-none : (line : Line) (out : SinkState) → LineReaches line line out out
reach-none line out = (
  λ turned. turned,
  record { bytes = []; put = sink-as-it-was out; leads = λ job turned stands. (stands, sym (append-nil (written_in job turned))) },
)

pub reach-then : (a b c : Line) (o p q : SinkState) → LineReaches a b o p → LineReaches b c p q → LineReaches a c o q
reach-then a b c o p q first last = (
  λ turned. last.0 (first.0 turned),
  record {
    bytes = first.1.bytes ++ last.1.bytes;
    put = sink-then first.1.bytes last.1.bytes false o p q first.1.put last.1.put;
    leads = λ job turned stands.
        let middle = first.1.leads job turned stands in
        let end = last.1.leads job (first.0 turned) middle.0 in (
          end.0,
          end.1 ∙ ap (λ written. written ++ last.1.bytes) middle.1 ∙ append_assoc (written_in job turned) first.1.bytes last.1.bytes,
        );
  },
)

-- a turn is such a way
pub turn-reaches : (machine : ℕ) (moved : Moved) (a b : Line) (o p : SinkState) → HasTurned machine moved a b o p → LineReaches a b o p
turn-reaches machine moved a b o p turn = (turned_by moved machine, record { bytes = turn.bytes; put = turn.put; leads = turn.came.leads })

-- a call that failed, where more was to come
sink-first : (first more : List ℕ) (a b : SinkState) → SinkEnded first true a b → SinkEnded (first ++ more) true a b
sink-first = grind (arith, common_steps)

-- what was put since a line was begun
module _ (job : LineJob) (begun : SinkState) (a b : Line) (o p : SinkState) (way : IsUnderWay job begun a o) where
  pub put-more : (to : Turned → Turned) → Goes to a b o p → SinkEnded (written_in job (to way.turned)) false begun p
  put-more to goes =
      rw (goes.leads job way.turned way.stands).1 (sink-then (written_in job way.turned) goes.bytes false begun o p way.put goes.put)

  pub way-on : LineReaches a b o p → IsUnderWay job begun b p
  way-on reached = record {
    turned = reached.0 way.turned;
    stands = (reached.1.leads job way.turned way.stands).0;
    put = put-more reached.0 reached.1;
  }

pub way-fails : (job : LineJob) (begun : SinkState) (machine : ℕ) (a b : Line) (o p : SinkState) → IsUnderWay job begun a o
    → Fails machine a b o p → SinkEnded (stream job (last_machine job)) true begun p
way-fails job begun machine a b o p way fails =
    let written = written_in job way.turned in
    let next = goes-on-with job a way.turned machine fails.byte way.stands (fails.cause job way.turned way.stands) in
    rw (append_assoc written (fails.byte ∷ []) next.0 ∙ sym next.1) at
    (sink-first (written ++ fails.byte ∷ []) next.0 begun p (sink-then written (fails.byte ∷ []) true begun o p way.put fails.put))

-- a turn, by what is said of it
pub turn-way : (machine : ℕ) (line line_now : Line) (out out_now : SinkState) (result : Result Moved Failed)
    → TurnCame machine line line_now out out_now result → (job : LineJob) (begun : SinkState) → IsUnderWay job begun line out
    → StaysUnderWay job begun line_now out_now (is_err result)
turn-way machine line line_now out out_now (Ok moved) turn job begun way =
    way-on job begun line line_now out out_now way (turn-reaches machine moved line line_now out out_now turn)
turn-way machine line line_now out out_now (Err failed) fails job begun way = way-fails job begun machine line line_now out out_now way fails

-- a move behind others, or behind none
pub works-more : (moved : Bool) (a b c : Line) → WorksOn moved a b → WorksOn true b c → WorksOn true a c
works-more = grind (arith, common_steps)

-- of a line under way that stopped
pub way-stops : (job : LineJob) (begun : SinkState) (a b : Line) (o p : SinkState) → IsUnderWay job begun a o → LineStops a b o p
    → SinkEnded (stream job (last_machine job)) true begun p
way-stops job begun a b o p way stops =
    way-fails job begun stops.machine b b stops.here p (way-on job begun a b o stops.here way stops.reaches) stops.fails

pub reach-stops : (a b c : Line) (o p q : SinkState) → LineReaches a b o p → LineStops b c p q → LineStops a c o q
reach-stops a b c o p q first stops =
    record { here = stops.here; reaches = reach-then a b c o p stops.here first stops.reaches; machine = stops.machine; fails = stops.fails }

-- how much is left of the turns: each move makes the work less, and after a machine that is still the one behind it is next
abbrev pub turns_left : Line → ℕ → ℕ
turns_left line index = work_left line * (length line.members.items + 1) + (length line.members.items - index)

-- where no machine of a line moves all their runs are over
module _ (job : LineJob) (line : Line) (turned : Turned) (stands : LineRepresents job line turned)
    (still : (machine : ℕ) → machine < length line.members.items → IsStill line machine) where
  still-at : (machine : ℕ) → machine < length job.roms → (IsWaiting job line turned machine → ⊥) → (MachineIsHeld job line turned machine → ⊥)
      → PlaceHasEnded (machine_place job turned machine)
  still-at machine within = still machine (omega arith) job turned stands

  -- from the last machine on none is held
  none-held : (behind machine : ℕ) → machine + suc behind ≡ length job.roms → MachineIsHeld job line turned machine → ⊥
  none-held zero machine last held = omega arith
  none-held (suc behind) machine last held = held.goes_on (still-at (suc machine) (omega arith)
      (λ waits. let empty : length (ring_before line (suc machine)) ≡ 0 = ap length waits.nothing in omega arith)
      (none-held behind (suc machine) (omega arith)))

  -- so from the first one on all are at their end
  all-over : (machine : ℕ) → machine < length job.roms → PlaceHasEnded (machine_place job turned machine)
  all-over zero within = still-at zero within (λ waits. waits.comes) (none-held (length job.roms - 1) zero (omega arith))
  all-over (suc machine) within = still-at (suc machine) within (λ waits. waits.comes (all-over machine (omega arith)))
      (none-held (length job.roms - suc (suc machine)) (suc machine) (omega arith))

-- a line of which no machine moves is at the end of all runs
pub still-finishes : (first line : Line) (begun out : SinkState) (code : ℕ) → LineReaches first line begun out
    → ((machine : ℕ) → machine < length line.members.items → IsStill line machine)
    → ((job : LineJob) (turned : Turned) → LineRepresents job line turned → (machine_place job turned (last_machine job)).left ≡ 0
    → code ≡ exit_code_at (machine_place job turned (last_machine job)).done.last)
    → LineFinishes first line begun out code
still-finishes first line begun out code went still codes = record {
  to = went.0;
  goes = went.1;
  over = λ job begun_at stands.
      let turned = went.0 begun_at in
      let at = (went.1.leads job begun_at stands).0 in
      let over = all-over job line turned at still in
      let last = over (last_machine job) (omega arith) in
      record {
        ended = λ machine within. (over machine within, (ended-whole job at.job_is machine (turned machine) (over machine within)).1);
        whole = (ended-whole job at.job_is (last_machine job) (turned (last_machine job)) last).0;
        code_is = codes job turned at last.0
            ∙ ap exit_code_at (ended-whole job at.job_is (last_machine job) (turned (last_machine job)) last).1;
      };
}

-- of a line under way
pub finish-put : (job : LineJob) (begun : SinkState) (a b : Line) (o p : SinkState) (code : ℕ) → IsUnderWay job begun a o → LineFinishes a b o p code
    → SinkEnded (stream job (last_machine job)) false begun p
finish-put job begun a b o p code way done =
    rw (done.over job way.turned way.stands).whole at (put-more job begun a b o p way done.to done.goes)
