-- What a call of a file device does to the devices of a machine, to memory and to the tree.
use Rattle.std.specs.Prelude.{◌≡◌, ℕ, Bool, true, false, List, Option, Result, Ok, Err}
use Rattle.uxn_io_traits.specs.Files.{Nodes}
use Rattle.uxn_io_traits.specs.State.{TreeState}
use Rattle.uxn_io_traits.specs.Ended.{TreeEnded}
use Rattle.uxn_opcodes.specs.declared.Stop.{Stop}
use Rattle.uxn_opcodes.specs.declared.Stop.TheVariants as stops
use Rattle.file_ports.specs.declared.stop.FileStop.{FileStop}
use Rattle.file_ports.specs.declared.stop.FileStop.TheVariants.{TreeFault, NoMemory}
use Rattle.file_ports.specs.Device.{FileState}
use Rattle.file_ports.specs.Actions as file
use Rattle.file_ports.specs.Actions.{FileAction}
use Rattle.file_ports.specs.AnswersAction.{AnswersAction, FileStopped as DeviceStopped}
use Rattle.varvara_bus.specs.declared.files.Request.{Request}
use Rattle.varvara_bus.specs.declared.files.Request.TheVariants as requested
use Rattle.varvara_bus.specs.declared.ports.FileNumber.{FileNumber}
use Rattle.varvara_bus.specs.declared.ports.FileAct.{FileAct}
use Rattle.varvara_bus.specs.declared.ports.FileAct.TheVariants.{Stat, Delete, Name, Read, Write}
use Rattle.varvara_bus.specs.declared.devices.Devices.{Devices}
use Rattle.varvara_bus.specs.State.{DeviceState, DevicesRepresent, HasFiles}
use Rattle.varvara_bus.specs.FileActs.{file_outcome, file_acted, PortLeft}
use Rattle.varvara_bus.specs.Bus.{HasRoot, WantsFolder, file_held}

-- the action that is requested
abbrev pub action_requested : Request → FileAction
action_requested (requested.Stat at length) = file.Stat at length
action_requested requested.Delete = file.Delete
action_requested (requested.Name at) = file.Name at
action_requested (requested.Read at length) = file.Read at length
action_requested (requested.Write at length keep) = file.Write at length keep

abbrev pub act_requested : Request → FileAct
act_requested (requested.Stat at length) = Stat
act_requested requested.Delete = Delete
act_requested (requested.Name at) = Name
act_requested (requested.Read at length) = Read
act_requested (requested.Write at length keep) = Write

-- a device answered what an action does by the files of a state beneath a root, or it stopped
abbrev pub Performed : FileAction → Option (List ℕ) → FileState → List ℕ → Option Nodes → Result ℕ FileStop
    → FileState → List ℕ → Type 0
Performed action root device memory contents (Ok success) device_now memory_now =
    (part : Nodes) → (parent : Bool) → HasFiles contents root part parent
    → AnswersAction (file.act action root part parent device memory) (Ok success) device_now memory_now
Performed action root device memory contents (Err stop) device_now memory_now = DeviceStopped action device memory contents stop device_now memory_now

-- a stop of a file device as one of a port
abbrev pub stop_of : FileStop → Stop
stop_of TreeFault = stops.TreeFault
stop_of NoMemory = stops.NoMemory

-- the tree failed
abbrev pub stopped_by_tree : Result (Unit {0}) Stop → Bool
stopped_by_tree (Ok done) = false
stopped_by_tree (Err stops.TreeFault) = true
stopped_by_tree (Err stops.SinkFault) = false
stopped_by_tree (Err stops.NoMemory) = false

-- the devices and memory are as an action of a file device leaves them
pub record FileActed (number : FileNumber) (act : FileAct) (state : DeviceState) (bytes : List ℕ) (held : Devices) (memory_now : List ℕ)
    : Type 0 where
  pub memory : memory_now ≡ (file_outcome number act state bytes).memory
  pub devices : DevicesRepresent held (file_acted number (file_outcome number act state bytes) state)

-- or as it leaves them where it stopped, which it does only beneath a root: no port is stored, and memory runs out to a read alone
pub record FileStopped (number : FileNumber) (act : FileAct) (before : Devices) (bytes : List ℕ) (contents : Option Nodes) (stop : Stop)
    (held : Devices) (memory_now : List ℕ) : Type 0 where
  pub cause : FileStop
  pub is : stop ≡ stop_of cause
  pub left : (state : DeviceState) → DevicesRepresent before state → PortLeft number act state bytes contents held memory_now
  pub page : held.page ≡ before.page
  pub rooted : HasRoot before
  pub wants : stop ≡ stops.NoMemory → (act ≡ Read) × WantsFolder (file_held number before) contents

abbrev pub FileAnswers : FileNumber → FileAct → Devices → List ℕ → Option Nodes → Result (Unit {0}) Stop → Devices
    → List ℕ → Type 0
FileAnswers number act before bytes contents (Ok done) held memory_now = (state : DeviceState) → DevicesRepresent before state
    → HasFiles contents state.root state.part state.parent → FileActed number act state bytes held memory_now
FileAnswers number act before bytes contents (Err stop) held memory_now = FileStopped number act before bytes contents stop held memory_now

-- the changes of an action by the ports were made, or a prefix of them, from each state that the devices represented beside the files of the tree
abbrev pub FileEnded : FileNumber → FileAct → Devices → List ℕ → Bool → TreeState → TreeState → Type 0
FileEnded number act before bytes failed files files_now = (state : DeviceState) → DevicesRepresent before state
    → HasFiles files.contents state.root state.part state.parent → TreeEnded (file_outcome number act state bytes).changes failed files files_now
