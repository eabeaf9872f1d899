-- The moments of a run, in order: each differs from the next one only within the bytes that are kept for it.
use Rattle.std.specs.Prelude.{ℕ, List, [], ◌∷◌, map, reverse, take, drop}
use Rattle.text_lines.specs.Scripts.{ScriptView}
use Rattle.vector_loop.specs.declared.output.Outputs.{Outputs}
use Rattle.vector_loop.specs.State.{State}
use Rattle.vector_loop.specs.Run.{run}
use Rattle.uxn_undo.specs.Changes.{instruction_span}
use Rattle.uxn_undo.specs.Laws.{GivenMoments, DiffersWithin, Follow}
use Rattle.uxn_undo.specs.Row.{IsMachine, page_of}

-- what a moment of the reference run gives
abbrev pub given_at : State → GivenMoments
given_at state = record { core = state.core; stored = page_of state.devices }

-- the memory of the next moment, or the one at the end
abbrev pub memory_next : List GivenMoments → List ℕ → List ℕ
memory_next [] last = last
memory_next (given ∷ later) last = given.core.memory

-- moments in order, and the memory at the end
abbrev pub InRow : List GivenMoments → List ℕ → Type 0
InRow [] last = Unit {0}
InRow (given ∷ later) last =
    DiffersWithin (instruction_span given.core given.stored) given.core.memory (memory_next later last) × InRow later last

-- so are those of the reference run of a script, from any machine on; and the first of such moments, as many as one likes, follow one
-- another up to the next one, or up to the end
pub record RunLaw : Type 0 where
  pub in_row : (budget : ℕ) (outputs : Outputs) (script : ScriptView) (state : State) → IsMachine state.core
      → InRow (map given_at (run budget outputs script state).moments) (run budget outputs script state).last.core.memory
  pub follow : (given : List GivenMoments) (last : List ℕ) (count : ℕ) → InRow given last
      → Follow (reverse (take count given)) (memory_next (drop count given) last)
