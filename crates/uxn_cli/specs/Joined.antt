-- What a line has before it begins: the ROM of each machine, and the script of the first one.
use Rattle.std.specs.Prelude.{◌≡◌, ℕ, Bool, [], Result, IfOk, is_err}
use Rattle.uxn_io_traits.specs.Ended.{SinkEnded}
use Rattle.uxn_io_traits.specs.State.{SinkState}
use Rattle.uxn_io_traits.specs.declared.sinks.Failed.{Failed}
use Rattle.uxn_line.specs.declared.line.Line.{Line}
use Rattle.uxn_line.specs.Moves.{IsUnderWay, StaysUnderWay}
use Rattle.uxn_line.specs.Streams.{LineJob, AreOfConsole}
use Rattle.uxn_cli.specs.declared.task_files.machines.LineInputs.{LineInputs}
use Rattle.uxn_cli.specs.Held.{AreMachines, model_of_machines}
use Rattle.uxn_cli.specs.Verdict.{RunLine, Plan, planned, line_job}
use Rattle.uxn_cli.specs.Outcome.{line_bytes, line_exit}

-- the line that was joined
abbrev pub job_of_joined : LineInputs → LineJob
job_of_joined joined = line_job (model_of_machines joined)

abbrev pub joined_plan : LineInputs → Plan
joined_plan joined = planned (RunLine (job_of_joined joined)) []

-- it can be run
pub record IsRunnable (joined : LineInputs) : Type 0 where
  pub machines : AreMachines joined.setup.sources joined.roms.items
  pub events : AreOfConsole joined.script.events

-- of whatever a line was begun over: it is under way still, or a prefix of the stream of its last machine was put that is not whole
abbrev pub LineGoesOn : Line → SinkState → Line → SinkState → Bool → Type 0
LineGoesOn line out line_now out_now failed =
    (job : LineJob) (begun : SinkState) → IsUnderWay job begun line out → StaysUnderWay job begun line_now out_now failed

-- the whole of it was put, or a prefix that is not, and this is the exit code
abbrev pub LineHasDone : Line → SinkState → SinkState → Result ℕ Failed → Type 0
LineHasDone line out out_now result = (job : LineJob) (begun : SinkState) → IsUnderWay job begun line out
    → SinkEnded (line_bytes job) (is_err result) begun out_now × IfOk result (λ code. code ≡ line_exit job)
