-- The run of a vector (Varvara device reference; profile: the budget).
use Rattle.std.specs.Prelude.{◌≡◌, List, ◌++◌, ℕ, zero, suc, ◌==◌, ◌||◌, Bool, false, [], ◌∷◌, if◌then◌else◌}
use Rattle.uxn_io_traits.specs.Outside.{Change}
use Rattle.uxn_opcodes.specs.Rule.{opcode_at}
use Rattle.varvara_bus.specs.Effect.{Effect}
use Rattle.varvara_bus.specs.Model.{instruction_effect}
use Rattle.vector_loop.specs.declared.tally.VectorEnd.{VectorEnd}
use Rattle.vector_loop.specs.declared.tally.VectorEnd.TheVariants.{Broke, Cut}
use Rattle.vector_loop.specs.State.{State, counting_instruction, counting_vector, counting_cut}
use Rattle.vector_loop.specs.Trace.{Trace, stays, followed_by}

-- one instruction
abbrev pub after : State → Effect → Trace
after state done = record {
  moments = state ∷ [];
  appends = [];
  changes = done.changes;
  last = record { core = done.core; devices = done.devices; tally = counting_instruction state.tally };
}

abbrev pub instruction : State → Trace
instruction state = after state (instruction_effect state.devices state.core)

-- these changes are those of the instructions at these moments, in order, and between them what the run itself appends
abbrev pub AreChangesAt : List State → List Change → Type 0
AreChangesAt [] changes = Unit {0}
AreChangesAt (state ∷ states) changes = (own : List Change) × ((later : List Change)
    × ((changes ≡ own ++ ((instruction state).changes ++ later)) × AreChangesAt states later))

-- the next instruction is BRK
abbrev pub at_break : State → Bool
at_break state = opcode_at state.core == 0

-- instructions up to and with the first BRK, or so many of which none is BRK, which is counted as a cut
unfoldable pub instructions : ℕ → State → Trace
instructions zero state = stays (record state { tally = counting_cut state.tally })
instructions (suc left) state = if at_break state then instruction state else followed_by (instruction state) (instructions left)

-- one of the first so many instructions is BRK
unfoldable pub breaks : ℕ → State → Bool
breaks zero state = false
breaks (suc left) state = at_break state || breaks left (instruction state).last

-- how they end
abbrev pub ends_by : ℕ → State → VectorEnd
ends_by left state = if breaks left state then Broke else Cut

-- a vector begins at its address
abbrev pub begun_at : ℕ → State → State
begun_at address state = record state { core = record state.core { at = address }; tally = counting_vector state.tally }

-- the vector at an address, of at most so many instructions, and how it ends
unfoldable pub vector : ℕ → ℕ → State → Trace
vector budget address state = instructions budget (begun_at address state)

unfoldable pub vector_end : ℕ → ℕ → State → VectorEnd
vector_end budget address state = ends_by budget (begun_at address state)
