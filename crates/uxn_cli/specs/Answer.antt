-- What a call gives, and what stands where it ends early.
use Rattle.std.specs.Prelude.{◌≡◌, ◌≢◌, ℕ, ◌≤◌, List, [], Option, None, Result, Ok, Err, IfOk, IsSome, ◌⊎◌}
use Rattle.uxn_io_traits.specs.Files.{Nodes}
use Rattle.uxn_io_traits.specs.Outside.{Change, World, changed_by, IsCutOff}
use Rattle.uxn_opcodes.specs.declared.Stop.{Stop}
use Rattle.uxn_opcodes.specs.declared.Stop.TheVariants.{TreeFault, SinkFault, NoMemory}
use Rattle.vector_loop.specs.Folders.{TraceTakesNames}
use Rattle.uxn_arguments.specs.declared.task.Task.{Task}
use Rattle.uxn_cli.specs.declared.task_files.refusal.Refusal.{Refusal}
use Rattle.uxn_cli.specs.declared.task_files.refusal.Halt.{Halt}
use Rattle.uxn_cli.specs.declared.task_files.refusal.Halt.TheVariants.{Refused, Stopped}
use Rattle.uxn_io_traits.specs.Gives.{Gives}
use Rattle.uxn_cli.specs.Verdict.{Work, Run, Write, inquiry_of}
use Rattle.uxn_cli.specs.Outcome.{Outcome, outcome_of}
use Rattle.uxn_cli.specs.RunJob.{trace_of}

-- the status and all that stands outside are those of an outcome
pub record HasOutcome (o : Outcome) (before now : World) (answer : ℕ) : Type 0 where
  pub status : answer ≡ o.status
  pub world : now ≡ changed_by before o.changes

-- what a run does beneath a root is not known, where the tree has unknown contents
abbrev pub HasUnknownContents : Option Nodes → Result Work Refusal → Type 0
HasUnknownContents None (Ok (Run job)) = IsSome job.task.root
HasUnknownContents _ _ = ⊥

-- it is refused, and nothing was done yet
pub record CallIsRefused (requested : Result Task Refusal) (before now : World) (refusal : Refusal) : Type 0 where
  pub given : Gives before.files (inquiry_of requested) (Err refusal)
  pub same : now ≡ before

-- memory may run out in the middle of a run that a debugger watches, or that takes the names of a folder at or beneath its root
abbrev pub MayRunOut : Option Nodes → Result Work Refusal → Type 0
MayRunOut files (Ok (Run job)) = IsSome job.debug ⊎ (IsSome job.task.root × TraceTakesNames (trace_of files job))
MayRunOut files _ = ⊥

-- what may stop a call in the middle of its changes, of which these are left: either fault stops a run; a fault of the tree stops where
-- files are written; and a fault of the sink where all that is done is to put one text, of which something is left
abbrev pub MayStop : Option Nodes → Result Work Refusal → Stop → List Change → Type 0
MayStop files found NoMemory rest = MayRunOut files found
MayStop files (Ok (Run job)) stop rest = Unit {0}
MayStop files (Ok (Write texts)) stop rest = stop ≡ TreeFault
MayStop files found stop rest = (stop ≡ SinkFault) × (rest ≢ [])

-- all of it was done; or a prefix, by a stop that may come there
abbrev pub HasDone : Result Work Refusal → World → World → Result ℕ Stop → Type 0
HasDone found before now (Ok answer) = HasOutcome (outcome_of before.files found) before now answer
HasDone found before now (Err stop) =
    (cut : IsCutOff before now (outcome_of before.files found).changes) × MayStop before.files found stop cut.rest

-- so of the verdict on the call; where what its run does is not known the exit code is some code
pub record HasDoneWork (requested : Result Task Refusal) (before now : World) (result : Result ℕ Stop) : Type 0 where
  pub found : Result Work Refusal
  pub given : Gives before.files (inquiry_of requested) found
  pub has : HasDone found before now result ⊎ (HasUnknownContents before.files found × IfOk result (λ answer. answer ≤ 127))

-- how a call ends; or the tree failed as it was asked, or memory ran out before anything was done
abbrev pub AnswersCall : Result Task Refusal → World → World → Result ℕ Stop → Type 0
AnswersCall requested before now result =
    HasDoneWork requested before now result ⊎ ((now ≡ before) × ((result ≡ Err TreeFault) ⊎ (result ≡ Err NoMemory)))

-- how the work ended, where its refusal is not said yet
abbrev pub Performs : Result Task Refusal → World → World → Result ℕ Halt → Type 0
Performs requested before now (Ok answer) = AnswersCall requested before now (Ok answer)
Performs requested before now (Err (Refused refusal)) = CallIsRefused requested before now refusal
Performs requested before now (Err (Stopped stop)) = AnswersCall requested before now (Err stop)
