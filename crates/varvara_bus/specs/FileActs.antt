-- What the file devices do by their ports (Varvara device reference: File).
use Rattle.std.specs.Prelude.{ℕ, ◌+◌, ◌%◌, ◌==◌, Bool, List, map, Option, Some, if◌then◌else◌}
use Rattle.uxn_io_traits.specs.Files.{Nodes}
use Rattle.uxn_io_traits.specs.Outside.{ToFile, files_by}
use Rattle.file_ports.specs.Device.{FileState, suits}
use Rattle.file_ports.specs.AnswersAction.{device_left, MemoryLeft}
use Rattle.file_ports.specs.Actions as file
use Rattle.file_ports.specs.Actions.{FileAction, FileOutcome}
use Rattle.input_ports.specs.Page.{short_stores}
use Rattle.varvara_bus.specs.declared.ports.FileNumber.{FileNumber}
use Rattle.varvara_bus.specs.declared.ports.FileNumber.TheVariants.{First, Second}
use Rattle.varvara_bus.specs.declared.ports.FileAct.{FileAct}
use Rattle.varvara_bus.specs.declared.ports.FileAct.TheVariants.{Stat, Delete, Name, Read, Write}
use Rattle.varvara_bus.specs.History.{History, stored, stored_short}
use Rattle.varvara_bus.specs.declared.devices.Devices.{Devices}
use Rattle.varvara_bus.specs.State.{DeviceState, DevicesRepresent, storing}

-- the first of a device's ports, and the device
abbrev pub file_base : FileNumber → ℕ
file_base First = 0xa0
file_base Second = 0xb0

abbrev pub file_in : FileNumber → DeviceState → FileState
file_in First state = state.first_file
file_in Second state = state.second_file

abbrev pub with_file : FileNumber → FileState → DeviceState → DeviceState
with_file First device state = record state { first_file = device }
with_file Second device state = record state { second_file = device }

-- the length, and bit 01 of the append byte, by the first of the ports
abbrev pub length_in : History → ℕ → ℕ
length_in history base = stored_short history (base + 0x0a)

abbrev pub keeps_in : History → ℕ → Bool
keeps_in history base = stored history (base + 0x07) % 2 == 1

-- the action that is meant, with its address, its length and whether a file is kept, by the first of the ports
abbrev pub file_action : FileAct → History → ℕ → FileAction
file_action Stat history base = file.Stat (stored_short history (base + 0x04)) (length_in history base)
file_action Delete history base = file.Delete
file_action Name history base = file.Name (stored_short history (base + 0x08))
file_action Read history base = file.Read (stored_short history (base + 0x0c)) (length_in history base)
file_action Write history base = file.Write (stored_short history (base + 0x0e)) (length_in history base) (keeps_in history base)

-- what it does
abbrev pub file_outcome : FileNumber → FileAct → DeviceState → List ℕ → FileOutcome
file_outcome number act state memory =
    file.act (file_action act state.history (file_base number)) state.root state.part state.parent (file_in number state) memory

-- then the device goes on as it says, the files beneath the root are those that its changes leave, and its success is stored
abbrev pub file_acted : FileNumber → FileOutcome → DeviceState → DeviceState
file_acted number outcome state =
    storing (short_stores (file_base number + 0x02) outcome.success)
    (with_file number outcome.device (record state { part = files_by state.part outcome.changes }))

-- a stop of an action leaves its device and memory so, by the ports of a file device, and all other devices as before
pub record PortLeft (number : FileNumber) (act : FileAct) (state : DeviceState) (before : List ℕ) (contents : Option Nodes)
    (held : Devices) (memory_now : List ℕ) : Type 0 where
  pub devices : DevicesRepresent held (with_file number
      (device_left (file_action act state.history (file_base number)) (file_in number state)) state)
  pub memory : MemoryLeft (file_action act state.history (file_base number)) (file_in number state) before contents memory_now

-- bytes were added to a file: to one of the root part there too
abbrev pub piece_appended : List ℕ → List ℕ → DeviceState → DeviceState
piece_appended path bytes state =
    if suits state.root (Some path) then record state { part = files_by state.part (map (λ byte. ToFile path byte) bytes) } else state
