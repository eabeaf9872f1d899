-- A bus: devices, a tree and two sinks that are borrowed to it, and its ports.
use Rattle.std.specs.Prelude.{◌≡◌, ℕ, Bool, true, false, List, [], ◌∷◌, Option, Some, None, Result, Ok, Err}
use Rattle.std.specs.Prelude.{IfSome, IsSome, slice_index}
use Rattle.uxn_io_traits.specs.Files.{Nodes, file_at}
use Rattle.uxn_io_traits.specs.Faults.{Counts, Blame}
use Rattle.uxn_io_traits.specs.Ended.{RefusesNone, Done, CutShort}
use Rattle.uxn_io_traits.specs.Outside.{Change}
use Rattle.uxn_io_traits.specs.State.{Outside, outside}
use Rattle.uxn_io_traits.specs.declared.sinks.Sink as sinks
use Rattle.uxn_io_traits.specs.declared.trees.Tree as trees
use Rattle.file_ports.specs.Device.{FileState, suits}
use Rattle.file_ports.specs.AnswersAction.{DeviceTakesNames}
use Rattle.uxn_opcodes.specs.declared.Core.{Core}
use Rattle.uxn_opcodes.specs.declared.Stop.{Stop}
use Rattle.uxn_opcodes.specs.declared.Stop.TheVariants.{NoMemory}
use Rattle.uxn_opcodes.specs.Ports.{Rules, result_blame}
use Rattle.screen_layers.specs.Layers.{Layers}
use Rattle.varvara_bus.specs.declared.bus.Bus.{Bus}
use Rattle.varvara_bus.specs.declared.devices.Devices.{Devices}
use Rattle.input_ports.specs.Page.{with_stores}
use Rattle.varvara_bus.specs.History.{Store}
use Rattle.varvara_bus.specs.State.{DeviceState, DevicesRepresent, HasFiles, device_clock, storing}
use Rattle.varvara_bus.specs.ReadsPort.{read_of}
use Rattle.varvara_bus.specs.declared.ports.Action.{Action}
use Rattle.varvara_bus.specs.declared.ports.Action.TheVariants.{ActsOnFile}
use Rattle.varvara_bus.specs.declared.ports.FileNumber.{FileNumber}
use Rattle.varvara_bus.specs.declared.ports.FileNumber.TheVariants.{First, Second}
use Rattle.varvara_bus.specs.declared.ports.FileAct.TheVariants.{Read}
use Rattle.varvara_bus.specs.FileActs.{PortLeft}
use Rattle.varvara_bus.specs.Effect.{Effect, action_of, asks_tree, act}

-- the same four are borrowed
pub record SameBorrowed {T O E : Type 0} (before now : Bus T O E) : Type 0 where
  pub devices : now.devices.ghost_name ≡ before.devices.ghost_name
  pub tree : now.tree.ghost_name ≡ before.tree.ghost_name
  pub out : now.out.ghost_name ≡ before.out.ghost_name
  pub err : now.err.ghost_name ≡ before.err.ghost_name

-- a file is at the path, where the contents are known
abbrev pub IsFileWhereKnown : Option Nodes → List ℕ → Type 0
IsFileWhereKnown contents path = IfSome contents (λ nodes. IsSome (file_at nodes path))

-- a path lies outside the part of the tree that the program sees: it is neither the root nor beneath it
abbrev pub IsOutside : Option (List ℕ) → List ℕ → Type 0
IsOutside root path = suits root (Some path) ≡ false

-- each file outside the root part that was there is there still
pub record FilesStay (root : Option (List ℕ)) (before now : Option Nodes) : Type 0 where
  pub stays : (path : List ℕ) → IsOutside root path → IsFileWhereKnown before path → IsFileWhereKnown now path

-- the machine has a root
abbrev pub HasRoot : Devices → Type 0
HasRoot devices = IsSome devices.root

-- memory runs out for the names of the folder at the path of a file device that is not reading
pub record WantsFolder (device : FileState) (contents : Option Nodes) : Type 0 where
  pub named : IsSome device.path
  pub names : DeviceTakesNames device contents

abbrev pub file_held : FileNumber → Devices → FileState
file_held First devices = devices.first_file
file_held Second devices = devices.second_file

-- that comes of a read by one of the two alone
pub record WantsNames (action : Action) (devices : Devices) (contents : Option Nodes) : Type 0 where
  pub number : FileNumber
  pub reads : action ≡ ActsOnFile number Read
  pub folder : WantsFolder (file_held number devices) contents

-- the known contents of a tree, by what its trait sees of it
abbrev pub contents_on : {T : Type 0} → trees.Ghosts T → T → Option Nodes
contents_on of_tree tree = (of_tree.state tree).contents

-- what no write changes: what is borrowed, which files are outside the root part, that without a root no file is refused, the frames
-- begun, the clock and the root
pub record SameBus {T O E : Type 0} (of_tree : trees.Ghosts T) (before now : Bus T O E) : Type 0 where
  pub borrowed : SameBorrowed before now
  pub files : FilesStay before.devices.now.root (contents_on of_tree before.tree.now) (contents_on of_tree now.tree.now)
  pub refusals : before.devices.now.root ≡ None → RefusesNone (of_tree.state before.tree.now) (of_tree.state now.tree.now)
  pub frames : now.devices.now.time.frames ≡ before.devices.now.time.frames
  pub clock : device_clock now.devices.now ≡ device_clock before.devices.now
  pub root : now.devices.now.root ≡ before.devices.now.root

-- a bus represents what its devices represent, with the root part of its tree
pub record BusRepresents {T O E : Type 0} (contents_of_tree : T → Option Nodes) (bus : Bus T O E) (state : DeviceState) : Type 0 where
  pub devices : DevicesRepresent bus.devices.now state
  pub files : HasFiles (contents_of_tree bus.tree.now) state.root state.part state.parent

-- the bytes that were last stored in the ports, that of one port, and the number of frames begun, as the bus holds them
abbrev pub held_page : {T O E : Type 0} → Bus T O E → List ℕ
held_page bus = bus.devices.now.page

abbrev pub held : {T O E : Type 0} → Bus T O E → ℕ → ℕ
held bus port = slice_index (held_page bus) port

abbrev pub frames_begun : {T O E : Type 0} → Bus T O E → ℕ
frames_begun bus = bus.devices.now.time.frames

-- the screen, as the bus holds it
abbrev pub screen_of : {T O E : Type 0} → Bus T O E → Layers
screen_of bus = bus.devices.now.screen

-- nothing but what the devices represent changes
pub record ChangesDevices {T O E : Type 0} (before now : Bus T O E) : Type 0 where
  pub borrowed : SameBorrowed before now
  pub tree : now.tree.now ≡ before.tree.now
  pub out : now.out.now ≡ before.out.now
  pub err : now.err.now ≡ before.err.now
  pub clock : device_clock now.devices.now ≡ device_clock before.devices.now
  pub root : now.devices.now.root ≡ before.devices.now.root

-- each state that the devices represented, whatever the contents of the tree, becomes what is given of it; so does each that the bus represented
pub record Becomes {T O E : Type 0} (contents_of_tree : T → Option Nodes) (given : DeviceState → DeviceState) (before now : Bus T O E)
    : Type 0 where
  pub devices : (state : DeviceState) → DevicesRepresent before.devices.now state → DevicesRepresent now.devices.now (given state)
  pub bus : (state : DeviceState) → BusRepresents contents_of_tree before state → BusRepresents contents_of_tree now (given state)

-- a read gives what the port reads in each state that the devices represent, whatever the contents of the tree
abbrev pub ReadsPort : {T O E : Type 0} → Bus T O E → Core → ℕ → ℕ → Type 0
ReadsPort bus core port value = (state : DeviceState) → DevicesRepresent bus.devices.now state → value ≡ read_of state core port

-- the known contents of a tree and two sinks, how they count their faults, and what they are guaranteed to do
pub record BusModel (T O E : Type 0) : Type 1 where
  pub tree : trees.Ghosts T
  pub out : sinks.Ghosts O
  pub err : sinks.Ghosts E

abbrev pub meaning_of : {T O E : Type 0} → trees.Ghosts T → sinks.Ghosts O → sinks.Ghosts E → BusModel T O E
meaning_of of_tree of_out of_err = record { tree = of_tree; out = of_out; err = of_err }

-- who is to blame for a stop, if it stopped
abbrev pub blame_for : Result (Unit {0}) Stop → Option Blame
blame_for (Ok done) = None
blame_for (Err stop) = Some (result_blame {T = Unit {0}} (Err stop))

module _ {T O E : Type 0} (meaning : BusModel T O E) where
  -- what is outside, by what a bus is borrowed
  abbrev pub outside_on : Bus T O E → Outside
  outside_on bus = outside (meaning.tree.state bus.tree.now) (meaning.out.state bus.out.now) (meaning.err.state bus.err.now)

  -- the faults counted there
  abbrev pub bus_faults : Bus T O E → Counts
  bus_faults bus = (outside_on bus).faults

  -- these changes were made by a bus, or it stopped and a prefix of them was
  abbrev pub Makes : Bus T O E → Bus T O E → List Change → Type 0
  Makes before now changes = Done changes (outside_on before) (outside_on now)

  abbrev pub StopsShort : Bus T O E → Bus T O E → Stop → List Change → Type 0
  StopsShort before now stop changes = CutShort changes (result_blame {T = Unit {0}} (Err stop)) (outside_on before) (outside_on now)

  -- the bus and the core are as an effect says
  pub record HasEffect (before now : Bus T O E) (new : Core) (done : Effect) : Type 0 where
    pub core : new ≡ done.core
    pub devices : BusRepresents (contents_on meaning.tree) now done.devices
    pub makes : Makes before now done.changes

  -- a state to act from: what the bus represents where the tree is asked, and else what the devices represent, whatever the contents of the tree
  abbrev pub RepresentsTo : Bool → Bus T O E → DeviceState → Type 0
  RepresentsTo true bus state = BusRepresents (contents_on meaning.tree) bus state
  RepresentsTo false bus state = DevicesRepresent bus.devices.now state

  -- the state that was come to; a tree that is not asked stays as it was
  abbrev pub ComesTo : Bool → Bus T O E → Bus T O E → DeviceState → Type 0
  ComesTo true before now state = BusRepresents (contents_on meaning.tree) now state
  ComesTo false before now state = DevicesRepresent now.devices.now state × (now.tree.now ≡ before.tree.now)

  -- what an action does that asks the tree, or does not
  pub record Does (asks : Bool) (before now : Bus T O E) (new : Core) (done : Effect) : Type 0 where
    pub core : new ≡ done.core
    pub devices : ComesTo asks before now done.devices
    pub makes : Makes before now done.changes

  -- a stop leaves the core as it was, but for what the tree was asked to put in memory; a tree that is not asked stays
  abbrev pub KeepsBus : Bool → Bus T O E → Core → Bus T O E → Core → Type 0
  KeepsBus true before old now new = new ≡ record old { memory = new.memory }
  KeepsBus false before old now new = (new ≡ old) × (now.tree.now ≡ before.tree.now)

  -- and the devices as they were, but for a file device that was to act
  abbrev pub Leaves : Action → DeviceState → Option Nodes → Core → Bus T O E → Core → Type 0
  Leaves (ActsOnFile number part) state contents old now new = PortLeft number part state old.memory contents now.devices.now new.memory
  Leaves _ state contents old now new = DevicesRepresent now.devices.now state

  -- an action was done once these bytes were stored, from each state to act from
  pub record HasActed (stores : List Store) (before : Bus T O E) (old : Core) (action : Action) (byte : ℕ) (now : Bus T O E) (new : Core)
      : Type 0 where
    pub does : (state : DeviceState) → RepresentsTo (asks_tree action) before state
        → Does (asks_tree action) before now new (act action byte (storing stores state) old)
    pub same : SameBus meaning.tree before now

  -- one that stopped made a prefix of its changes, and nothing but these bytes was stored; memory runs out only where there is a root
  pub record HasStopped (stores : List Store) (before : Bus T O E) (old : Core) (action : Action) (byte : ℕ) (stop : Stop) (now : Bus T O E)
      (new : Core) : Type 0 where
    pub cut : (state : DeviceState) → RepresentsTo (asks_tree action) before state
        → StopsShort before now stop (act action byte (storing stores state) old).changes
    pub leaves : (state : DeviceState) → DevicesRepresent before.devices.now state
        → Leaves action (storing stores state) (meaning.tree.state before.tree.now).contents old now new
    pub keeps : KeepsBus (asks_tree action) before old now new
    pub page : held_page now ≡ with_stores (held_page before) stores
    pub memory : stop ≡ NoMemory → HasRoot before.devices.now
    pub names : stop ≡ NoMemory → WantsNames action before.devices.now (meaning.tree.state before.tree.now).contents
    pub same : SameBus meaning.tree before now

  -- the rules of a bus's ports: a write stores its byte, and then the action of its port is done
  abbrev pub bus_rules : Rules (Bus T O E)
  bus_rules = record {
    reads = ReadsPort;
    wrote = λ before old port byte now new. HasActed ((port, byte) ∷ []) before old (action_of port) byte now new;
    stopped = λ before old port byte stop now new. HasStopped ((port, byte) ∷ []) before old (action_of port) byte stop now new;
  }

  -- an action was done, or it stopped
  abbrev pub ActEnds : Bus T O E → Core → Action → ℕ → Bus T O E → Core → Result (Unit {0}) Stop → Type 0
  ActEnds before old action byte now new (Ok done) = HasActed [] before old action byte now new
  ActEnds before old action byte now new (Err stop) = HasStopped [] before old action byte stop now new
