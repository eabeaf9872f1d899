-- What a machine of a line represents (profile).
use Rattle.std.specs.Prelude.{◌≡◌, ℕ, ◌==◌, List, [], ◌∷◌, ◌++◌, None, if◌then◌else◌}
use Rattle.uxn_limits.specs.declared.ports.TheConstants.{CONSOLE_WRITE}
use Rattle.uxn_opcodes.specs.declared.Core.{Core}
use Rattle.varvara_bus.specs.Writes.{writes_at}
use Rattle.varvara_bus.specs.declared.devices.Devices.{Devices}
use Rattle.varvara_bus.specs.State.{DeviceState, DevicesRepresent, HasFiles}
use Rattle.varvara_bus.specs.Effect.{Effect}
use Rattle.uxn_line.specs.declared.machine.Machine.{Machine}
use Rattle.vector_loop.specs.Places.{Place}

-- of bytes written to ports those written to port 18
abbrev pub handed_in : List (ℕ × ℕ) → List ℕ
handed_in [] = []
handed_in (write ∷ writes) = (if write.0 == CONSOLE_WRITE then write.1 ∷ [] else []) ++ handed_in writes

-- the bytes that the next instruction writes to port 18, one at most: DEO at 18, and DEO2 at 17 and 18
unfoldable pub handed_on : Core → List ℕ
handed_on core = handed_in (writes_at core)

-- devices without a root and without a tree represent a state
pub record Rests (held : Devices) (state : DeviceState) : Type 0 where
  pub devices : DevicesRepresent held state
  pub alone : HasFiles None state.root state.part state.parent

-- a core and devices are as an effect says
pub record MachineHasDone (new : Core) (held : Devices) (done : Effect) : Type 0 where
  pub core : new ≡ done.core
  pub devices : Rests held done.devices

-- a machine stands at a place of a run
pub record MachineRepresents (machine : Machine) (now : Place) : Type 0 where
  pub core : machine.core ≡ now.done.last.core
  pub devices : Rests machine.devices now.done.last.devices
  pub left : machine.left ≡ now.left
