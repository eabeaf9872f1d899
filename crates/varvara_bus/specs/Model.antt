-- The ports of a machine as a model, and what an instruction does over them.
use Rattle.std.specs.Prelude.{ℕ, List, [], ◌++◌}
use Rattle.uxn_io_traits.specs.Outside.{Change}
use Rattle.uxn_opcodes.specs.declared.Core.{Core}
use Rattle.uxn_opcodes.specs.Rule.{begun}
use Rattle.uxn_opcodes.specs.Model.{PortModel, Machine, written_by, after_instruction}
use Rattle.varvara_bus.specs.State.{DeviceState}
use Rattle.varvara_bus.specs.ReadsPort.{read_of}
use Rattle.varvara_bus.specs.Effect.{Effect, effect}

-- what the devices represent, and the changes made so far
pub record Devised : Type 0 where
  pub devices : DeviceState
  pub changes : List Change

-- devices before anything was changed outside
abbrev pub no_changes : DeviceState → Devised
no_changes devices = record { devices = devices; changes = [] }

-- a read gives what its port reads; a write has its effect, whose changes come after those made so far
abbrev pub varvara : PortModel Devised
varvara = record {
  read = λ so_far core port. read_of so_far.devices core port;
  write = λ so_far core port byte. let done = effect so_far.devices core port byte in
      record { core = done.core; ports = record { devices = done.devices; changes = so_far.changes ++ done.changes } };
}

abbrev pub effect_from : Machine Devised → Effect
effect_from machine = record { core = machine.core; devices = machine.ports.devices; changes = machine.ports.changes }

-- what an instruction does, with the writes of its port access one after the other
unfoldable pub instruction_effect : DeviceState → Core → Effect
instruction_effect devices core = effect_from (after_instruction varvara core (no_changes devices))

-- the machine once an instruction has made these of its writes
abbrev pub reached_by : DeviceState → Core → List (ℕ × ℕ) → Machine Devised
reached_by devices core writes = written_by varvara writes (record { core = (begun core).core; ports = no_changes devices })
