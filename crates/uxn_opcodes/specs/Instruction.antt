-- An instruction over any ports, as a relation by the rules of these ports (Uxntal opcode reference, Varvara device reference).
use Rattle.std.specs.Prelude.{◌≡◌, ◌≢◌, ℕ, ◌+◌, ◌/◌, ◌%◌, ◌⊎◌, List, [], ◌∷◌}
use Rattle.std.specs.Prelude.{Result, Ok, Err}
use Rattle.uxn_opcodes.specs.declared.Core.{Core}
use Rattle.uxn_opcodes.specs.declared.Stop.{Stop}
use Rattle.uxn_opcodes.specs.declared.Turn.{Turn}
use Rattle.uxn_opcodes.specs.declared.Turn.TheVariants.{Ran, Broke}
use Rattle.uxn_opcodes.specs.declared.operation.Width.{Width}
use Rattle.uxn_opcodes.specs.declared.operation.Width.TheVariants.{Byte, Short}
use Rattle.uxn_opcodes.specs.declared.operation.Mode.{Mode}
use Rattle.uxn_opcodes.specs.declared.rows.Access.{Access}
use Rattle.uxn_opcodes.specs.declared.rows.Access.TheVariants.{Nothing, Read, Write}
use Rattle.uxn_opcodes.specs.Ports.{Rules}
use Rattle.uxn_opcodes.specs.Words.{pushed}
use Rattle.uxn_opcodes.specs.Rule.{sides_of, core_of, opcode_at, past_opcode, begun}

-- the bytes of a word with the ports that they are written to, in order
abbrev pub writes_of : Width → ℕ → ℕ → List (ℕ × ℕ)
writes_of Byte port value = (port, value % 256) ∷ []
writes_of Short port value = (port, value / 256) ∷ ((port + 1) % 256, value % 256) ∷ []

-- the bytes that an access writes, with their ports
abbrev pub writes_in : Access → List (ℕ × ℕ)
writes_in Nothing = []
writes_in (Read port mode) = []
writes_in (Write port width value) = writes_of width port value

-- what was read is pushed on this stack
abbrev pub port_answered : Mode → Core → ℕ → Core
port_answered mode core value = let s = sides_of mode.returns core in core_of mode.returns (record s { this = pushed s.this mode.width value })

-- a word is read at a port: a byte there, or the high byte there and the low byte at the next port modulo 256
abbrev pub ReadsWord : {S : Type 0} → Rules S → Width → S → Core → ℕ → ℕ → Type 0
ReadsWord rules Byte ports core port value = rules.reads ports core port value
ReadsWord rules Short ports core port value =
    rules.reads ports core port (value / 256) × rules.reads ports core ((port + 1) % 256) (value % 256)

-- bytes are written one after the other, each from the state that the one before left
abbrev pub Written : {S : Type 0} → Rules S → List (ℕ × ℕ) → S → Core → S → Core → Type 0
Written rules [] ports core ports_new core_new = (ports_new ≡ ports) × (core_new ≡ core)
Written {S} rules (write ∷ writes) ports core ports_new core_new =
    (between : S) × ((middle : Core) × (rules.wrote ports core write.0 write.1 between middle
    × Written rules writes between middle ports_new core_new))

-- a write of these bytes stops at one of them, after those before it were written
abbrev pub WriteStops : {S : Type 0} → Rules S → List (ℕ × ℕ) → S → Core → Stop → S → Core → Type 0
WriteStops rules [] ports core stop ports_new core_new = ⊥
WriteStops {S} rules (write ∷ writes) ports core stop ports_new core_new =
    rules.stopped ports core write.0 write.1 stop ports_new core_new
    ⊎ ((between : S) × ((middle : Core) × (rules.wrote ports core write.0 write.1 between middle
    × WriteStops rules writes between middle stop ports_new core_new)))

-- the port access of an instruction is done
unfoldable pub FinishesAccess : {S : Type 0} → Rules S → Access → Core → S → Core → S → Type 0
FinishesAccess rules (Read port mode) core ports core_new ports_new =
    (ports_new ≡ ports)
    × ((value : ℕ) × (ReadsWord rules mode.width ports core port value × (core_new ≡ port_answered mode core value)))
FinishesAccess rules access core ports core_new ports_new = Written rules (writes_in access) ports core ports_new core_new

-- the instruction at `at`: BRK, which ends the vector; or one that runs to its end; or one whose port access stops
unfoldable pub Instruction : {S : Type 0} → Rules S → Core → S → Result Turn Stop → Core → S → Type 0
Instruction rules core ports (Ok Broke) core_new ports_new =
    (opcode_at core ≡ 0) × (core_new ≡ past_opcode core) × (ports_new ≡ ports)
Instruction rules core ports (Ok Ran) core_new ports_new =
    (opcode_at core ≢ 0) × FinishesAccess rules (begun core).access (begun core).core ports core_new ports_new
Instruction rules core ports (Err stop) core_new ports_new =
    (opcode_at core ≢ 0) × WriteStops rules (writes_in (begun core).access) ports (begun core).core stop ports_new core_new
