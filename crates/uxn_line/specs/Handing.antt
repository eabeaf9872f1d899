-- What a machine hands on before it runs the instruction that writes it to port 18 (profile).
use Rattle.std.specs.Prelude.{◌≡◌, ◌≢◌, ℕ, suc, ◌==◌, ◌<◌, if◌then◌else◌, Bool, true, false}
use Rattle.std.specs.Prelude.{List, [], ◌∷◌, length, slice_get, Some, Result, Ok, Err}
use Rattle.uxn_io_traits.specs.Ended.{SinkEnded}
use Rattle.uxn_io_traits.specs.State.{SinkState}
use Rattle.uxn_io_traits.specs.declared.sinks.Failed.{Failed}
use Rattle.uxn_line.specs.declared.line.Line.{Line}
use Rattle.uxn_line.specs.declared.member.Member.{Member}
use Rattle.uxn_line.specs.Members.{member_has_ended, handed_at}

-- which of the bytes that a machine writes are put: all if it is the last one, else none
abbrev pub put_from : Line → ℕ → List ℕ → List ℕ
put_from line machine bytes = if suc machine == length line.members.items then bytes else []

-- the next machine was handed the bytes, for which it had room, or they were put
pub record HandedOn (machine : ℕ) (bytes : List ℕ) (before now : Line) (out out_now : SinkState) : Type 0 where
  pub members : now.members.items ≡ handed_at (suc machine) bytes before.members.items
  pub budget : now.budget ≡ before.budget
  pub script : now.input_queue ≡ before.input_queue
  pub room : (next : Member) → slice_get before.members.items (suc machine) ≡ Some next → member_has_ended next ≡ false → bytes ≢ []
      → length next.ring.items < next.ring.capacity
  pub put : SinkEnded (put_from before machine bytes) false out out_now

-- nothing was done, since the ring behind the machine is full
pub record KeptBack (machine : ℕ) (bytes : List ℕ) (before now : Line) (out out_now : SinkState) : Type 0 where
  pub same : now ≡ before
  pub same_out : out_now ≡ out
  pub some : bytes ≢ []
  pub next : Member
  pub there : slice_get before.members.items (suc machine) ≡ Some next
  pub goes_on : member_has_ended next ≡ false
  pub full : length next.ring.items ≡ next.ring.capacity

-- the byte of the last machine was not put
pub record WasNotPut (machine : ℕ) (bytes : List ℕ) (before now : Line) (out out_now : SinkState) : Type 0 where
  pub same : now ≡ before
  pub last : suc machine ≡ length before.members.items
  pub byte : ℕ
  pub bytes_are : bytes ≡ byte ∷ []
  pub put : SinkEnded (byte ∷ []) true out out_now

abbrev pub HandsOn : ℕ → List ℕ → Line → Line → SinkState → SinkState → Result Bool Failed → Type 0
HandsOn machine bytes before now out out_now (Ok true) = HandedOn machine bytes before now out out_now
HandsOn machine bytes before now out out_now (Ok false) = KeptBack machine bytes before now out out_now
HandsOn machine bytes before now out out_now (Err failed) = WasNotPut machine bytes before now out out_now
