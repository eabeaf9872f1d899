-- Moments in order, each with what an instruction may change.
use Rattle.std.specs.Prelude.{ℕ, ◌<◌, ◌≤◌, List, map, length, slice_index}
use Rattle.std.specs.List.{range_with_len}
use Rattle.uxn_stacks.specs.Cells.{Cells}
use Rattle.uxn_opcodes.specs.declared.Core.{Core}
use Rattle.varvara_bus.specs.History.{stored}
use Rattle.varvara_bus.specs.State.{DeviceState}
use Rattle.varvara_bus.specs.Model.{instruction_effect}
use Rattle.uxn_undo.specs.Changes.{instruction_span}
use Rattle.uxn_undo.specs.Laws.{DiffersWithin}

-- a machine whose memory has bank 0, and whose stacks hold bytes
abbrev pub HoldsBytes : Cells → Type 0
HoldsBytes ring = (place : ℕ) → slice_index ring.bytes place < 256

pub record IsMachine (core : Core) : Type 0 where
  pub memory : 65536 ≤ length core.memory
  pub working : HoldsBytes core.working
  pub returns : HoldsBytes core.returns

-- the bytes stored in the ports
abbrev pub page_of : DeviceState → List ℕ
page_of devices = map (stored devices.history) (range_with_len 0 256)

-- an instruction changes bank 0 only within the bytes that are kept for it, and leaves a machine
pub record InstructionLaw : Type 0 where
  pub within : (devices : DeviceState) (core : Core) → IsMachine core
      → DiffersWithin (instruction_span core (page_of devices)) core.memory (instruction_effect devices core).core.memory
  pub machine : (devices : DeviceState) (core : Core) → IsMachine core → IsMachine (instruction_effect devices core).core
