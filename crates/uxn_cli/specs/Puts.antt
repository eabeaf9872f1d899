-- Bytes that are put on a sink.
use Rattle.std.specs.Prelude.{◌≡◌, ℕ, true, false, List, Result, Ok, Err}
use Rattle.uxn_io_traits.specs.Ended.{SinkEnded}
use Rattle.uxn_io_traits.specs.State.{SinkState}
use Rattle.uxn_opcodes.specs.declared.Stop.TheVariants.{TreeFault, SinkFault, NoMemory}
use Rattle.uxn_cli.specs.declared.task_files.refusal.Halt.{Halt}
use Rattle.uxn_cli.specs.declared.task_files.refusal.Halt.TheVariants.{Refused, Stopped}

-- bytes were put on a sink, and the answer is this code; or a prefix that is not whole, as the sink failed; or memory ran out,
-- and nothing was put
abbrev pub Puts : SinkState → SinkState → List ℕ → ℕ → Result ℕ Halt → Type 0
Puts before now bytes code (Ok answer) = SinkEnded bytes false before now × (answer ≡ code)
Puts before now bytes code (Err (Stopped SinkFault)) = SinkEnded bytes true before now
Puts before now bytes code (Err (Stopped NoMemory)) = now ≡ before
Puts before now bytes code (Err (Stopped TreeFault)) = ⊥
Puts before now bytes code (Err (Refused refusal)) = ⊥
