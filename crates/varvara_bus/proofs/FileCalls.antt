-- What a call of a file device does, by the files of a state and by the ports of the device.
use Rattle.std.proofs.Common.{◌≡◌, ℕ, ◌+◌, Bool, true, false, List, [], refl, ap, rules, sym, subst, ◌∙◌}
use Rattle.std.specs.Prelude.{Option, Some, None, Result, Ok, Err, is_none, if◌then◌else◌}
use Rattle.std.specs.Option.{option_map}
use Rattle.uxn_io_traits.specs.Files.{Nodes}
use Rattle.uxn_io_traits.specs.Outside.{Change, files_by}
use Rattle.uxn_io_traits.specs.State.{TreeState}
use Rattle.uxn_io_traits.specs.Ended.{contents_after, StandsAfter, TreeEnded}
use Rattle.uxn_io_traits.specs.EndedLaws.{contents_after-some, contents_after-none}
use Rattle.file_ports.specs.declared.stop.FileStop.{FileStop}
use Rattle.file_ports.specs.Device.{FileState, idle_at, Suits}
use Rattle.file_ports.specs.Names.{path_named}
use Rattle.file_ports.specs.RootPart.{IsIn, LieIn}
use Rattle.file_ports.specs.Actions.{FileAction, Name, Read, Stat, FileOutcome, Observed, observed_file, acts, act}
use Rattle.file_ports.specs.AnswersAction.{AnswersAction, FileStopped, MemoryLeft, outcome_by, changes_unknown, changes_by, device_left, ActedOrStopped, MayWant, DeviceTakesNames}
use Rattle.file_ports.specs.PartLaws.{below-files_by, outcome-same}
use Rattle.uxn_io_traits.specs.EachLaws.{each-parts}
use Rattle.file_ports.specs.ActLaws.{lie-none, parent-kept, rootless, act-nowhere, changes-of, path-kept, changes-lie}
use Rattle.uxn_io_traits.specs.CallLaws.{ended-as}
use Rattle.file_ports.specs.OutsideLaws.{still-there}
use Rattle.input_ports.specs.Page.{short_stores}
use Rattle.varvara_bus.specs.declared.devices.Devices.{Devices}
use Rattle.varvara_bus.specs.declared.files.Request.{Request}
use Rattle.varvara_bus.specs.declared.ports.FileAct.{FileAct}
use Rattle.varvara_bus.specs.declared.ports.FileAct.TheVariants as acts_on
use Rattle.varvara_bus.specs.declared.ports.FileNumber.{FileNumber}
use Rattle.varvara_bus.specs.State.{DeviceState, DevicesRepresent, HasFiles, storing}
use Rattle.varvara_bus.specs.FileActs.{PortLeft, file_base, file_in, with_file, file_action, file_outcome}
use Rattle.varvara_bus.specs.Bus.{FilesStay, file_held}
use Rattle.varvara_bus.specs.Laws.{stand-part, held-file}
use Rattle.varvara_bus.specs.FileCalls.{action_requested, act_requested, Performed, FileActed}

-- ---- a device and its tree

-- beneath a root an action does what it does by the whole tree; of a tree of unknown contents this is known without a path alone
outcome-known : (action : FileAction) (root : Option (List ℕ)) (part : Nodes) (parent : Bool) (device : FileState) (memory : List ℕ) (contents : Option Nodes)
    → ((observed : Option Observed) → acts action None device memory observed ≡ acts action root device memory observed)
    → Suits root device → HasFiles contents root part parent
    → outcome_by action contents device memory ≡ Some (act action root part parent device memory)
outcome-known action root part parent device memory None same fits has =
    let none : device.path ≡ None = rootless device (rw has.0 at fits) in
    ap (λ (path : Option (List ℕ)). if is_none path then Some (acts action None device memory None) else None) none
    ∙ ap (λ (o : FileOutcome). Some o) (same None ∙ sym (act-nowhere action root part parent device memory none))
outcome-known action root part parent device memory (Some nodes) same fits has =
    ap (λ (o : FileOutcome). Some o)
    (same (option_map (observed_file nodes) device.path) ∙ sym (outcome-same action root nodes device memory fits) ∙ rw has.0 (rw has.1 refl))

pub performs : (action : FileAction) (root : Option (List ℕ)) (device : FileState) (memory : List ℕ) (contents : Option Nodes) (result : Result ℕ FileStop)
    (device_now : FileState) (memory_now : List ℕ)
    → ((observed : Option Observed) → acts action None device memory observed ≡ acts action root device memory observed)
    → Suits root device → ActedOrStopped action device memory contents result device_now memory_now
    → Performed action root device memory contents result device_now memory_now
performs = search (rules, outcome-known)

-- a device goes on to suit its root
pub goes-on : (action : FileAction) (root : Option (List ℕ)) (device : FileState) (memory : List ℕ) (contents : Option Nodes) (result : Result ℕ FileStop)
    (device_now : FileState) (memory_now : List ℕ) → Suits root device → ActedOrStopped action device memory contents result device_now memory_now
    → Suits root device_now
goes-on action root device memory contents result device_now memory_now fits acted =
    rw (path-kept action device memory contents result device_now memory_now acted) fits

-- a name asks nothing of the tree
pub names : (at : ℕ) (root : Option (List ℕ)) (device device_now : FileState) (memory : List ℕ) (contents : Option Nodes)
    → device_now ≡ idle_at (path_named root memory at) → Performed (Name at) root device memory contents (Ok 0) device_now memory
names at root device device_now memory contents is = λ part parent has. record { success = refl; device = is; memory = refl }

-- without a path nothing is changed
nowhere-none : (action : FileAction) (root : Option (List ℕ)) (device : FileState) (memory : List ℕ)
    → changes_unknown action None ≡ (acts action root device memory None).changes
nowhere-none = search rules

-- changes by what is observed of a tree are those by the files of a state
pub changes-known : (action : FileAction) (root : Option (List ℕ)) (part : Nodes) (parent : Bool) (device : FileState) (memory : List ℕ) (contents : Option Nodes)
    → Suits root device → HasFiles contents root part parent
    → changes_by action contents device memory ≡ (act action root part parent device memory).changes
changes-known action root part parent device memory None fits has =
    let none : device.path ≡ None = rootless device (rw has.0 at fits) in
    ap (changes_unknown action) none ∙ nowhere-none action root device memory
    ∙ ap (λ (o : FileOutcome). o.changes) (sym (act-nowhere action root part parent device memory none))
changes-known action root part parent device memory (Some nodes) fits has =
    changes-of action root nodes device memory fits ∙ rw has.0 (rw has.1 refl)

-- ---- the files of a state

-- the root part after changes in it
pub files-now : (changes : List Change) (root : Option (List ℕ)) (part : Nodes) (parent : Bool) (before now : Option Nodes)
    → HasFiles before root part parent → LieIn root changes → now ≡ contents_after changes before → HasFiles now root (files_by part changes) parent
files-now = search (rules, below-files_by, contents_after-none, contents_after-some, lie-none, parent-kept)

-- each file outside it is there still
stays-by : (root : Option (List ℕ)) (changes : List Change) (before now : Option Nodes) → LieIn root changes → now ≡ contents_after changes before
    → FilesStay root before now
stays-by = search (rules, contents_after-none, contents_after-some, still-there)

stays-after : (root : Option (List ℕ)) (changes : List Change) (failed : Bool) (a b : TreeState) → LieIn root changes → TreeEnded changes failed a b
    → FilesStay root a.contents b.contents
stays-after root changes failed a b lie ended = by failed ended.stands
  where
    by : (how : Bool) → StandsAfter changes how a.contents b.contents → FilesStay root a.contents b.contents
    by false is = stays-by root changes a.contents b.contents lie is
    by true prefix =
        stays-by root prefix.made a.contents b.contents (each-parts (IsIn root) prefix.made prefix.rest (subst (LieIn root) prefix.parts lie)).0
        prefix.contents

-- ---- the devices of a machine

held-suits : (number : FileNumber) (devices : Devices) → Suits devices.root (file_held number devices)
held-suits = search rules

pub files-stay : (action : FileAction) (number : FileNumber) (devices : Devices) (memory : List ℕ) (failed : Bool) (a b : TreeState)
    → TreeEnded (changes_by action a.contents (file_held number devices) memory) failed a b → FilesStay devices.root a.contents b.contents
files-stay action number devices memory failed a b =
    stays-after devices.root _ failed a b (changes-lie action devices.root a.contents (file_held number devices) memory (held-suits number devices))

-- devices represent a state whatever its part of the tree
with_part : (number : FileNumber) (devices : Devices) (device : FileState) (state : DeviceState) (part : Nodes)
    → DevicesRepresent devices (with_file number device state) → DevicesRepresent devices (with_file number device (record state { part = part }))
with_part = search (rules, stand-part)

abbrev value_of : Result ℕ FileStop → ℕ
value_of (Ok value) = value
value_of (Err stop) = 0

-- what is asked is what the state says
requested-is : (request : Request) (number : FileNumber) (part : FileAct) (root : Option (List ℕ)) (device : FileState) (state : DeviceState) (memory : List ℕ)
    → action_requested request ≡ file_action part state.history (file_base number) → root ≡ state.root → device ≡ file_in number state
    → act (action_requested request) root state.part state.parent device memory ≡ file_outcome number part state memory
requested-is request number part root device state memory is same held = rw (is, same, held) refl

-- what became of the tree
pub file-ended : (request : Request) (number : FileNumber) (part : FileAct) (devices : Devices) (state : DeviceState) (memory : List ℕ) (failed : Bool)
    (a b : TreeState) → action_requested request ≡ file_action part state.history (file_base number) → DevicesRepresent devices state
    → HasFiles a.contents state.root state.part state.parent
    → TreeEnded (changes_by (action_requested request) a.contents (file_held number devices) memory) failed a b
    → TreeEnded (file_outcome number part state memory).changes failed a b
file-ended request number part devices state memory failed a b is stands has ended =
    ended-as (changes_by (action_requested request) a.contents (file_held number devices) memory) _ failed a b
    (changes-known (action_requested request) devices.root state.part state.parent (file_held number devices) memory a.contents (held-suits number devices)
    (rw (sym stands.root) at has) ∙ ap (λ (o : FileOutcome). o.changes) (requested-is request number part devices.root (file_held number devices) state memory is stands.root (held-file number devices state stands))) ended

-- and of the devices and memory
pub file-acted : (request : Request) (number : FileNumber) (part : FileAct) (devices middle after : Devices) (state : DeviceState) (memory : List ℕ)
    (contents : Option Nodes) (success : ℕ) (memory_now : List ℕ) → action_requested request ≡ file_action part state.history (file_base number)
    → DevicesRepresent devices state → HasFiles contents state.root state.part state.parent
    → Performed (action_requested request) devices.root (file_held number devices) memory contents (Ok success) (file_held number middle) memory_now
    → DevicesRepresent middle (with_file number (file_held number middle) state)
    → ((s : DeviceState) → DevicesRepresent middle s → DevicesRepresent after (storing (short_stores (file_base number + 0x02) success) s))
    → FileActed number part state memory after memory_now
file-acted request number part devices middle after state memory contents success memory_now is stands has performed held stored =
    let outcome = file_outcome number part state memory in
    let done : AnswersAction outcome (Ok success) (file_held number middle) memory_now =
    rw (requested-is request number part devices.root (file_held number devices) state memory is stands.root (held-file number devices state stands)) at (performed state.part state.parent (rw (sym stands.root) at has)) in
    record {
      memory = done.memory;
      devices = rw (← ap value_of done.success)
          (stored (with_file number outcome.device (record state { part = files_by state.part outcome.changes }))
          (with_part number middle outcome.device state (files_by state.part outcome.changes) (rw done.device at held)));
    }

-- reads and stats change nothing
pub stat-changes : (at length : ℕ) (contents : Option Nodes) (device : FileState) (memory : List ℕ) → [] ≡ changes_by (Stat at length) contents device memory
stat-changes = search rules

pub read-changes : (at length : ℕ) (contents : Option Nodes) (device : FileState) (memory : List ℕ) → [] ≡ changes_by (Read at length) contents device memory
read-changes = search rules

-- a stop of a file device leaves its port so
pub file-left : (request : Request) (number : FileNumber) (act : FileAct) (devices held : Devices) (state : DeviceState) (memory memory_now : List ℕ)
    (contents : Option Nodes) (stop : FileStop) → action_requested request ≡ file_action act state.history (file_base number) → DevicesRepresent devices state
    → DevicesRepresent held (with_file number (file_held number held) state)
    → FileStopped (action_requested request) (file_held number devices) memory contents stop (file_held number held) memory_now
    → PortLeft number act state memory contents held memory_now
file-left request number act devices held state memory memory_now contents stop is stands stood stopped =
    let there = held-file number devices state stands in record {
      devices =
          subst (λ device. DevicesRepresent held (with_file number device state))
          (stopped.device ∙ ap (λ action. device_left action (file_held number devices)) is
          ∙ ap (device_left (file_action act state.history (file_base number))) there) stood;
      memory =
          subst (λ device. MemoryLeft (file_action act state.history (file_base number)) device memory contents memory_now) there
          (subst (λ action. MemoryLeft action (file_held number devices) memory contents memory_now) is stopped.memory);
    }

-- memory runs out to a read alone
pub wants-read : (request : Request) (device : FileState) (contents : Option Nodes) → MayWant (action_requested request) device contents
    → (act_requested request ≡ acts_on.Read) × DeviceTakesNames device contents
wants-read = search rules
