-- What each call of the program keeps to, in groups.
use Rattle.std.specs.Prelude.{◌≡◌, ℕ, ◌≤◌, ◌⊎◌, false, List, Some, Result, Ok, IfSome}
use Rattle.std.specs.Str.{bytes_eq}
use Rattle.uxn_io_traits.specs.Faults.{Rose, Ledger}
use Rattle.uxn_io_traits.specs.Files.{Nodes}
use Rattle.uxn_io_traits.specs.Outside.{IsCutOff}
use Rattle.uxn_io_traits.specs.Taking.{WasNotGuaranteed}
use Rattle.uxn_opcodes.specs.declared.Stop.{Stop}
use Rattle.uxn_cli.specs.Answer.{MayRunOut, AnswersCall}
use Rattle.uxn_cli.specs.Blame.{status_blame}
use Rattle.uxn_cli.specs.Call.{Call, call_request, OfVerdict, step_status}
use Rattle.uxn_cli.specs.Causes.{IsExactly, tree_verdict, EndsWith, KeepsOthers, PutsLine}
use Rattle.uxn_cli.specs.Isolation.{LookSame, GivesAsOn}
use Rattle.uxn_cli.specs.Observation.{HaveSameItems}
use Rattle.uxn_cli.specs.Outcome.{outcome_of, GivesOutcome}
use Rattle.uxn_cli.specs.Request.{request}
use Rattle.uxn_cli.specs.Statuses.{status_of, IsEarly, IsRefusing, IsRefusedWith}
use Rattle.uxn_cli.specs.declared.task_files.refusal.Refusal.{Refusal}
use Rattle.uxn_cli.specs.Verdict.{Work}

-- the status, the bytes on both outputs and the files are the outcome of what was requested and read; or the call ended early
abbrev pub HasItsOutcome : Call → Type 0
HasItsOutcome c = (result : Result ℕ Stop) × (c.status ≡ step_status result) × AnswersCall (call_request c) c.before.world c.now.world result

-- what stands as before
pub record LeavesTheRest (c : Call) : Type 0 where
  -- every path that is no output and lies outside the root has its old node
  pub others : KeepsOthers (call_request c) c.before.world.files c.now.world.files
  -- a refusal changes nothing in the tree, puts nothing on the standard output, and one line on the error output
  pub untouched : IsRefusing c.status → c.now.world.files ≡ c.before.world.files
  pub quiet : IsRefusing c.status → c.now.world.out ≡ c.before.world.out
  pub one_line : IsRefusing c.status → PutsLine c.before.world.err c.now.world.err

-- when each status is given, unless the call ends early
pub record HasStatuses (c : Call) : Type 0 where
  -- 128 and 129, which depend on the words alone
  pub requested : (refusal : Refusal) → status_of refusal ≤ 129
      → IsExactly c.status (status_of refusal) (IsRefusedWith (status_of refusal) (call_request c))
  -- every refusal, and every exit code
  pub refused : OfVerdict c (λ verdict. (refusal : Refusal)
      → IsExactly c.status (status_of refusal) (IsRefusedWith (status_of refusal) verdict))
  pub accepted : OfVerdict c (λ verdict. (code : ℕ) → code ≤ 127 → IsExactly c.status code (EndsWith c.before.world.files code verdict))

-- why a call ends early
pub record EndsEarlyByFaults (c : Call) : Type 0 where
  -- the tree or sink to blame for the status counted a fault in this call, and no other that is exact did
  pub ledger : Ledger c.before.faults c.now.faults (status_blame c.status)
  -- what is accepted ends with its exit code, unless a count rose or memory ran out
  pub complete : OfVerdict c (λ verdict. (work : Work) → verdict ≡ Ok work
      → (Rose c.before.faults.tree.faults c.now.faults.tree.faults → ⊥)
      → (Rose c.before.faults.out.faults c.now.faults.out.faults → ⊥) → (Rose c.before.faults.err.faults c.now.faults.err.faults → ⊥)
      → (c.status ≡ (outcome_of c.before.world.files (Ok work)).status) ⊎ (c.status ≡ 138))
  -- when out of memory all is as it was, but where a debugger watches the run or it takes the names of a folder
  pub wanting : OfVerdict c (λ verdict. c.status ≡ 138 → (c.now.world ≡ c.before.world) ⊎ MayRunOut c.before.world.files verdict)

-- after an early end a prefix of the changes of the outcome stands, perhaps none of them
abbrev pub IsCutShort : Call → Type 0
IsCutShort c = OfVerdict c (λ verdict. IsEarly c.status → IsCutOff c.before.world c.now.world (outcome_of c.before.world.files verdict).changes)

-- what other calls give the same, unless the call ended early
pub record GivesTheSame (c : Call) : Type 0 where
  -- where a `debug` is accepted, `play` with the same items, but for the log
  pub watched : IfSome c.before.world.files (λ nodes. (others : List (List ℕ)) (work : Work) (items : HaveSameItems c.words others)
      → tree_verdict nodes (call_request c) ≡ Ok work
      → IsEarly c.status ⊎ GivesOutcome (outcome_of (Some nodes) (tree_verdict nodes (request others))) c.before.world
      items.run.root (λ path. bytes_eq path items.debug.log ≡ false) c.now.world c.status)
  -- the same call over every other tree that replies the same to what it asks, and is the same to the program that it runs
  pub isolated : IfSome c.before.world.files (λ nodes. (other : Nodes) → LookSame (call_request c) nodes other
      → GivesAsOn (call_request c) nodes other c.before.world c.now.world c.status)

-- where the tree and the sinks are guaranteed to take the changes of the outcome, none of them fails
abbrev pub FailsNotWhereGuaranteed : Call → Type 0
FailsNotWhereGuaranteed c = OfVerdict c (λ verdict.
    WasNotGuaranteed (status_blame c.status) c.before.guaranteed c.before.world.files (outcome_of c.before.world.files verdict).changes)

-- what a call results in, from which all other clauses but `refusals` follow
pub record ComesOut (c : Call) : Type 0 where
  pub outcome : HasItsOutcome c
  pub ledger : Ledger c.before.faults c.now.faults (status_blame c.status)
  pub guaranteed : FailsNotWhereGuaranteed c
