-- The reference run of a script: the reset vector, then what the script gives, and no more once the state is not 0.
use Rattle.std.specs.Prelude.{ℕ, length}
use Rattle.text_lines.specs.Scripts.{ScriptView}
use Rattle.varvara_bus.specs.History.{made_ready}
use Rattle.vector_loop.specs.declared.output.Outputs.{Outputs}
use Rattle.vector_loop.specs.State.{State, with_stored}
use Rattle.vector_loop.specs.Trace.{Trace, followed_by}
use Rattle.vector_loop.specs.Vector.{vector}
use Rattle.vector_loop.specs.Answers.{Count, both_counts, of_vectors}
use Rattle.vector_loop.specs.Event.{give_each}
use Rattle.vector_loop.specs.PendingInputs.{pending_inputs_of, given, counts_of}

-- the whole run from a state on
unfoldable pub run : ℕ → Outputs → ScriptView → State → Trace
run budget outputs script state =
    followed_by (vector budget 0x0100 (with_stored (made_ready (length script.arguments)) state))
    (give_each (given budget outputs) (pending_inputs_of script))

-- how much is counted of it at most
abbrev pub most_of : ScriptView → Count
most_of script = both_counts (of_vectors 1) (counts_of (pending_inputs_of script))
