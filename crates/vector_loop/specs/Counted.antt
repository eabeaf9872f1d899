-- The moments of a run, counted by the instructions run before each.
use Rattle.std.specs.Prelude.{◌≡◌, ℕ, ◌+◌, List, [], ◌∷◌, length}
use Rattle.text_lines.specs.Scripts.{ScriptView}
use Rattle.vector_loop.specs.declared.output.Outputs.{Outputs}
use Rattle.vector_loop.specs.State.{State}
use Rattle.vector_loop.specs.Trace.{Trace}
use Rattle.vector_loop.specs.Run.{run}

-- before the first of these so many instructions were run, and before each other one more than before the one before it
abbrev pub AreCounted : ℕ → List State → Type 0
AreCounted count [] = Unit {0}
AreCounted count (state ∷ later) = (state.tally.instructions ≡ count) × AreCounted (count + 1) later

-- and before the end all of them
pub record IsCounted (count : ℕ) (trace : Trace) : Type 0 where
  pub moments : AreCounted count trace.moments
  pub last : trace.last.tally.instructions ≡ count + length trace.moments

-- so it is in a run of a script
abbrev pub CountingLaw : Type 0
CountingLaw = (budget : ℕ) (outputs : Outputs) (script : ScriptView) (state : State)
    → IsCounted state.tally.instructions (run budget outputs script state)
