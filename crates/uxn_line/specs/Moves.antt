-- What the turns of a line result in, and what they put (profile).
use Rattle.std.specs.Prelude.{◌≡◌, ◌≢◌, ℕ, zero, suc, ◌-◌, ◌<◌, ◌≤◌, Bool, true, false}
use Rattle.std.specs.Prelude.{List, [], ◌∷◌, ◌++◌, if◌then◌else◌, length, slice_get}
use Rattle.std.specs.Prelude.{Option, Some, None, Result, Ok, Err}
use Rattle.uxn_io_traits.specs.Ended.{SinkEnded}
use Rattle.uxn_io_traits.specs.State.{SinkState}
use Rattle.uxn_io_traits.specs.declared.sinks.Failed.{Failed}
use Rattle.uxn_line.specs.declared.line.Line.{Line}
use Rattle.uxn_line.specs.declared.line.Moved.{Moved}
use Rattle.uxn_line.specs.declared.line.Moved.TheVariants.{Ran, Gave, Waits, Held, Ended}
use Rattle.uxn_line.specs.declared.member.Member.{Member}
use Rattle.vector_loop.specs.Places.{PlaceHasEnded}
use Rattle.uxn_line.specs.Places.{put_in}
use Rattle.uxn_line.specs.Streams.{LineJob, stream, run_of_machine, exit_code_at}
use Rattle.uxn_line.specs.Machines.{handed_on}
use Rattle.uxn_line.specs.Standing.{Turned, one_more, machine_place, LineRepresents}
use Rattle.uxn_line.specs.Work.{WorksOn}

-- the bytes in the ring before a machine, if it is there
abbrev pub ring_of : Option Member → List ℕ
ring_of (Some member) = member.ring.items
ring_of None = []

abbrev pub ring_before : Line → ℕ → List ℕ
ring_before line machine = ring_of (slice_get line.members.items machine)

-- the run of the machine before one goes on; before the first one there is none
abbrev pub MoreComes : LineJob → Turned → ℕ → Type 0
MoreComes job turned zero = ⊥
MoreComes job turned (suc before) = PlaceHasEnded (machine_place job turned before) → ⊥

-- a machine waits: it is not the first, it is idle, its ring is empty, and neither its run nor that of the machine before it is over
pub record IsWaiting (job : LineJob) (line : Line) (turned : Turned) (machine : ℕ) : Type 0 where
  pub goes_on : PlaceHasEnded (machine_place job turned machine) → ⊥
  pub idle : (machine_place job turned machine).left ≡ 0
  pub nothing : ring_before line machine ≡ []
  pub comes : MoreComes job turned machine

-- a machine is held: it is in a vector, and its next instruction writes port 18; behind it there is a machine whose run is not over,
-- and the ring between them holds 256 bytes
pub record MachineIsHeld (job : LineJob) (line : Line) (turned : Turned) (machine : ℕ) : Type 0 where
  pub vector : 1 ≤ (machine_place job turned machine).left
  pub writes : handed_on (machine_place job turned machine).done.last.core ≢ []
  pub there : suc machine < length job.roms
  pub goes_on : PlaceHasEnded (machine_place job turned (suc machine)) → ⊥
  pub full : length (ring_before line (suc machine)) ≡ 256

-- the machine moved
abbrev pub is_move : Moved → Bool
is_move Ran = true
is_move Gave = true
is_move Waits = false
is_move Held = false
is_move Ended = false

-- how many turns each machine was given, after a turn with this answer
abbrev pub turned_by : Moved → ℕ → Turned → Turned
turned_by moved machine turned = if is_move moved then one_more machine turned else turned

-- the last machine, and what it has written to port 18
abbrev pub last_machine : LineJob → ℕ
last_machine job = length job.roms - 1

abbrev pub written_in : LineJob → Turned → List ℕ
written_in job turned = put_in (machine_place job turned (last_machine job))

-- a machine runs that is in a vector and is not held
pub record LineRuns (job : LineJob) (line : Line) (turned : Turned) (machine : ℕ) : Type 0 where
  pub vector : 1 ≤ (machine_place job turned machine).left
  pub free : MachineIsHeld job line turned machine → ⊥

-- a machine is given what comes next that is idle, whose run is not over, and that does not wait
pub record IsGiven (job : LineJob) (line : Line) (turned : Turned) (machine : ℕ) : Type 0 where
  pub idle : (machine_place job turned machine).left ≡ 0
  pub goes_on : PlaceHasEnded (machine_place job turned machine) → ⊥
  pub comes : IsWaiting job line turned machine → ⊥

-- why a turn has this answer
abbrev pub Cause : LineJob → Line → Turned → ℕ → Moved → Type 0
Cause job line turned machine Ran = LineRuns job line turned machine
Cause job line turned machine Gave = IsGiven job line turned machine
Cause job line turned machine Waits = IsWaiting job line turned machine
Cause job line turned machine Held = MachineIsHeld job line turned machine
Cause job line turned machine Ended = PlaceHasEnded (machine_place job turned machine)

-- a line that represented numbers of turns represents those that follow, and its last machine has written these bytes more
abbrev pub Leads : (Turned → Turned) → List ℕ → Line → Line → Type 0
Leads to bytes before now = (job : LineJob) (turned : Turned) → LineRepresents job before turned
    → LineRepresents job now (to turned) × (written_in job (to turned) ≡ written_in job turned ++ bytes)

-- and these were put
pub record Goes (to : Turned → Turned) (before now : Line) (out out_now : SinkState) : Type 0 where
  pub bytes : List ℕ
  pub put : SinkEnded bytes false out out_now
  pub leads : Leads to bytes before now

-- all that came of a turn in which the last machine wrote these bytes, but for the output
pub record Came (machine : ℕ) (moved : Moved) (bytes : List ℕ) (before now : Line) : Type 0 where
  pub cause : (job : LineJob) (turned : Turned) → LineRepresents job before turned → Cause job before turned machine moved
  pub leads : Leads (turned_by moved machine) bytes before now
  pub works : WorksOn (is_move moved) before now
  pub machines : length now.members.items ≡ length before.members.items

-- a machine is the last one and in a vector, and its next instruction writes this byte to port 18
pub record WritesLast (job : LineJob) (turned : Turned) (machine byte : ℕ) : Type 0 where
  pub vector : 1 ≤ (machine_place job turned machine).left
  pub last : suc machine ≡ length job.roms
  pub writes : handed_on (machine_place job turned machine).done.last.core ≡ byte ∷ []

-- a turn failed: its byte was not put, and nothing was changed
pub record Fails (machine : ℕ) (before now : Line) (out out_now : SinkState) : Type 0 where
  pub same : now ≡ before
  pub byte : ℕ
  pub put : SinkEnded (byte ∷ []) true out out_now
  pub cause : (job : LineJob) (turned : Turned) → LineRepresents job before turned → WritesLast job turned machine byte

-- a turn moved, and what the last machine wrote was put
pub record HasTurned (machine : ℕ) (moved : Moved) (before now : Line) (out out_now : SinkState) : Type 0 where
  pub bytes : List ℕ
  pub put : SinkEnded bytes false out out_now
  pub came : Came machine moved bytes before now

abbrev pub TurnCame : ℕ → Line → Line → SinkState → SinkState → Result Moved Failed → Type 0
TurnCame machine before now out out_now (Ok moved) = HasTurned machine moved before now out out_now
TurnCame machine before now out out_now (Err failed) = Fails machine before now out out_now

-- a line that was begun over this output represents some turns, and what its last machine has written was put
pub record IsUnderWay (job : LineJob) (begun : SinkState) (line : Line) (now : SinkState) : Type 0 where
  pub turned : Turned
  pub stands : LineRepresents job line turned
  pub put : SinkEnded (written_in job turned) false begun now

-- after a call that did not fail it is under way still; one that failed has put a prefix of the stream that is not whole
abbrev pub StaysUnderWay : LineJob → SinkState → Line → SinkState → Bool → Type 0
StaysUnderWay job begun line now false = IsUnderWay job begun line now
StaysUnderWay job begun line now true = SinkEnded (stream job (last_machine job)) true begun now

-- some turns were given, and what the last machine wrote was put
abbrev pub LineReaches : Line → Line → SinkState → SinkState → Type 0
LineReaches before now out out_now = (to : Turned → Turned) × Goes to before now out out_now

-- no turn of a machine moves anything, for whatever numbers of turns the line stands: it waits, is held, or is at its end
abbrev pub IsStill : Line → ℕ → Type 0
IsStill line machine = (job : LineJob) (turned : Turned) → LineRepresents job line turned → (IsWaiting job line turned machine → ⊥)
    → (MachineIsHeld job line turned machine → ⊥) → PlaceHasEnded (machine_place job turned machine)

-- a machine was given turns as long as it moved, and moved or not
pub record MovedOn (machine : ℕ) (moved : Bool) (before now : Line) (out out_now : SinkState) : Type 0 where
  pub reaches : LineReaches before now out out_now
  pub still : IsStill now machine
  pub works : WorksOn moved before now
  pub machines : length now.members.items ≡ length before.members.items

-- every machine stands at the end of its run
abbrev pub AllEnded : LineJob → Turned → Type 0
AllEnded job turned = (machine : ℕ) → machine < length job.roms
    → PlaceHasEnded (machine_place job turned machine) × ((machine_place job turned machine).done.last ≡ (run_of_machine job machine).last)

-- all runs are over: the last machine has written its whole stream, and this is its exit code
pub record IsOver (job : LineJob) (turned : Turned) (code : ℕ) : Type 0 where
  pub ended : AllEnded job turned
  pub whole : written_in job turned ≡ stream job (last_machine job)
  pub code_is : code ≡ exit_code_at (run_of_machine job (last_machine job)).last

-- a line was brought to the end of all its runs, and what was left of the stream was put
pub record LineFinishes (before now : Line) (out out_now : SinkState) (code : ℕ) : Type 0 where
  pub to : Turned → Turned
  pub goes : Goes to before now out out_now
  pub over : (job : LineJob) (turned : Turned) → LineRepresents job before turned → IsOver job (to turned) code

-- some turns were given, and what the last machine wrote was put; then a turn failed
pub record LineStops (before now : Line) (out out_now : SinkState) : Type 0 where
  pub here : SinkState
  pub reaches : LineReaches before now out here
  pub machine : ℕ
  pub fails : Fails machine now now here out_now

-- whatever turns were given to a line: what each machine has written to port 18 is a prefix of its stream, and all of it where its run is over
pub record StreamLaw : Type 0 where
  pub prefix : (job : LineJob) (line : Line) (turned : Turned) → LineRepresents job line turned → (machine : ℕ)
      → (rest : List ℕ) × (stream job machine ≡ put_in (machine_place job turned machine) ++ rest)
  pub whole : (job : LineJob) (line : Line) (turned : Turned) → LineRepresents job line turned → (machine : ℕ)
      → PlaceHasEnded (machine_place job turned machine) → put_in (machine_place job turned machine) ≡ stream job machine
