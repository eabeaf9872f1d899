-- A machine that runs an instruction, or is given a byte, stands at the next place of its run.
use Rattle.uxn_line.proofs.Common.{common_steps, handed_on, Some, ◌++◌, ◌≡◌, ℕ, ◌==◌, ◌-◌, ◌<◌, Bool, true, false, cond, refl, ap, sym, ◌∙◌, Core}
use Rattle.uxn_line.proofs.Common.{opcode_at, Devices, instruction_effect, PendingInput, State, counted_input, Place, Machine, turn, put_in}
use Rattle.uxn_line.proofs.Common.{MachineHasDone, MachineRepresents, List, ◌∷◌, arith, Option, is_some, is_over, Trace, ConsoleByte, console_byte_of}
use Rattle.uxn_line.proofs.Common.{holding, IsForConsole, put_by, put_by-append}
use Rattle.vector_loop.specs.Vector.{instruction}
use Rattle.vector_loop.specs.Places.{cut_at, instruction_step, vector_begins, step}
use Rattle.uxn_line.proofs.Handing.{rests-put}

-- a machine in a vector runs an instruction
pub run-turn : (budget : ℕ) (machine : Machine) (now : Place) → 0 < machine.left → MachineRepresents machine now
    → turn budget now ≡ instruction_step (machine.left - 1) now.done now.pending_inputs
unfolding step
run-turn = grind (arith, common_steps)

pub run-pending_inputs : (budget : ℕ) (machine : Machine) (now : Place) → 0 < machine.left → MachineRepresents machine now
    → (turn budget now).pending_inputs ≡ now.pending_inputs
unfolding instruction_step
run-pending_inputs budget machine now some stands = ap (λ (p : Place). p.pending_inputs) (run-turn budget machine now some stands)

-- the byte of what is for the console
pub some-byte : (byte : Option ConsoleByte) → is_some byte ≡ true → (given : ConsoleByte) × (byte ≡ Some given)
some-byte = grind (arith, common_steps)

-- the beginning of its vector gives no more and writes nothing
pub vector-gives : (budget : ℕ) (held : State) (done : Trace) (pending_inputs : List PendingInput)
    → ((vector_begins budget held done pending_inputs).pending_inputs ≡ pending_inputs) ×
    (put_in (vector_begins budget held done pending_inputs) ≡ put_by done.changes)
unfolding vector_begins
vector-gives = grind (arith, common_steps)

-- the giving of what comes next
module _ (budget : ℕ) (now : Place) (pending_input : PendingInput) (pending_inputs : List PendingInput) (idle : now.left ≡ 0)
    (are : now.pending_inputs ≡ pending_input ∷ pending_inputs)
    (goes_on : is_over now.done.last ≡ false) where
  pub turn-gives : (byte : ConsoleByte) → console_byte_of pending_input ≡ Some byte
      → turn budget now ≡ vector_begins budget (holding byte (counted_input pending_input now.done.last)) now.done pending_inputs
  unfolding step
  turn-gives byte is = rw (idle, are, goes_on, is) refl

  pub turn-given : IsForConsole pending_input → ((turn budget now).pending_inputs ≡ pending_inputs) × (put_in (turn budget now) ≡ put_in now)
  turn-given for_console =
      let byte = some-byte (console_byte_of pending_input) for_console in
      rw (turn-gives byte.0 byte.1) (vector-gives budget (holding byte.0 (counted_input pending_input now.done.last)) now.done pending_inputs)

-- a machine of these parts
abbrev pub machine_of : Core → Devices → ℕ → Machine
machine_of core devices left = record { core = core; devices = devices; left = left }

turned-same : (b : Bool) (less : ℕ) (last : State) → ((cond b last (cut_at less last)).core ≡ last.core)
    × ((cond b last (cut_at less last)).devices ≡ last.devices)
turned-same = grind (arith, common_steps)

pub run-stands : (budget : ℕ) (machine : Machine) (now : Place) (core : Core) (held : Devices) (left : ℕ) → 0 < machine.left
    → MachineRepresents machine now
    → MachineHasDone core held (instruction_effect now.done.last.devices machine.core)
    → left ≡ cond (opcode_at machine.core == 0) 0 (machine.left - 1)
    → MachineRepresents (machine_of core held left) (turn budget now)
unfolding instruction_step
run-stands budget machine now core held left some stands done is_left =
    rw (run-turn budget machine now some stands) (grind (arith, common_steps, turned-same))

pub run-put : (budget : ℕ) (machine : Machine) (now : Place) → 0 < machine.left → MachineRepresents machine now
    → put_in (turn budget now) ≡ put_in now ++ handed_on machine.core
unfolding instruction_step
run-put budget machine now some stands =
    ap put_in (run-turn budget machine now some stands) ∙ put_by-append now.done.changes (instruction now.done.last).changes
    ∙ ap (λ bytes. put_in now ++ bytes) (rests-put machine.devices now.done.last.devices now.done.last.core stands.devices)
    ∙ ap (λ c. put_in now ++ handed_on c) (sym stands.core)

-- a pending input is counted in the tally alone
pub counted-same : (pending_input : PendingInput) (state : State)
    → (state.core ≡ (counted_input pending_input state).core) × (state.devices ≡ (counted_input pending_input state).devices)
counted-same = grind (arith, common_steps)
