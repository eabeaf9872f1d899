-- A deterministic model of ports, and the instruction over it as a function.
use Rattle.std.specs.Prelude.{ℕ, ◌+◌, ◌*◌, ◌%◌, ◌==◌, if◌then◌else◌}
use Rattle.std.specs.Prelude.{List, [], ◌∷◌}
use Rattle.uxn_opcodes.specs.declared.Core.{Core}
use Rattle.uxn_opcodes.specs.declared.operation.Width.{Width}
use Rattle.uxn_opcodes.specs.declared.operation.Width.TheVariants.{Byte, Short}
use Rattle.uxn_opcodes.specs.declared.rows.Access.{Access}
use Rattle.uxn_opcodes.specs.declared.rows.Access.TheVariants.{Read}
use Rattle.uxn_opcodes.specs.Rule.{opcode_at, past_opcode, begun}
use Rattle.uxn_opcodes.specs.Instruction.{port_answered, writes_in}

-- the machine with the state of its ports
pub record Machine (Q : Type 0) : Type 0 where
  pub core : Core
  pub ports : Q

-- what a port reads, and what a write of a byte to a port leaves
pub record PortModel (Q : Type 0) : Type 0 where
  pub read : Q → Core → ℕ → ℕ
  pub write : Q → Core → ℕ → ℕ → Machine Q

-- a word read: a byte, or the high byte at the port and the low byte at the next port modulo 256
abbrev pub word_read : {Q : Type 0} → PortModel Q → Width → Q → Core → ℕ → ℕ
word_read model Byte q core port = model.read q core port
word_read model Short q core port = model.read q core port * 256 + model.read q core ((port + 1) % 256)

-- bytes written one after the other, each from the state that the one before left
abbrev pub written_by : {Q : Type 0} → PortModel Q → List (ℕ × ℕ) → Machine Q → Machine Q
written_by model [] machine = machine
written_by model (write ∷ writes) machine = written_by model writes (model.write machine.ports machine.core write.0 write.1)

-- the port access of an instruction done
abbrev pub access_done : {Q : Type 0} → PortModel Q → Access → Core → Q → Machine Q
access_done model (Read port mode) core q = record { core = port_answered mode core (word_read model mode.width q core port); ports = q }
access_done model access core q = written_by model (writes_in access) (record { core = core; ports = q })

-- the machine after the instruction at `at`; BRK only moves on
unfoldable pub after_instruction : {Q : Type 0} → PortModel Q → Core → Q → Machine Q
after_instruction model core q = if opcode_at core == 0
    then record { core = past_opcode core; ports = q }
    else access_done model (begun core).access (begun core).core q
