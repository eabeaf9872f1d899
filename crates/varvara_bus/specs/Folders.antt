-- Which instructions take the names of a folder: the one work of a machine's ports that takes memory.
use Rattle.std.specs.Prelude.{◌≡◌, ◌≢◌, ℕ, Bool, true, false, List, ◌∷◌, ◌++◌, Option, Some}
use Rattle.std.specs.Prelude.{None, is_some, IsTrue, IfSome, Err, refl}
use Rattle.std.proofs.Common.{ap, sym, ◌∙◌}
use Rattle.uxn_io_traits.specs.Files.{Nodes, kind_at}
use Rattle.uxn_io_traits.specs.declared.trees.Kind.TheVariants.{Folder}
use Rattle.file_ports.specs.Device.{FileState, suits, Suits}
use Rattle.file_ports.specs.RootPart.{below}
use Rattle.file_ports.specs.PartLaws.{observed-same}
use Rattle.file_ports.specs.ActLaws.{rootless}
use Rattle.uxn_opcodes.specs.declared.Core.{Core}
use Rattle.uxn_opcodes.specs.declared.Stop.TheVariants.{NoMemory}
use Rattle.uxn_opcodes.specs.Rule.{opcode_at, begun}
use Rattle.uxn_opcodes.specs.Instruction.{writes_in, Instruction}
use Rattle.uxn_opcodes.specs.ModelLaws.{carried-stopped}
use Rattle.varvara_bus.specs.declared.bus.Bus.{Bus}
use Rattle.varvara_bus.specs.declared.devices.Devices.{Devices}
use Rattle.varvara_bus.specs.declared.ports.Action.{Action}
use Rattle.varvara_bus.specs.declared.ports.Action.TheVariants.{ActsOnFile}
use Rattle.varvara_bus.specs.declared.ports.FileNumber.{FileNumber}
use Rattle.varvara_bus.specs.declared.ports.FileAct.TheVariants.{Read}
use Rattle.varvara_bus.specs.State.{DeviceState, DevicesRepresent, HasFiles}
use Rattle.varvara_bus.specs.FileActs.{file_in}
use Rattle.varvara_bus.specs.Effect.{action_of}
use Rattle.varvara_bus.specs.Model.{no_changes, varvara, reached_by}
use Rattle.varvara_bus.specs.Bus.{BusModel, BusRepresents, WantsFolder, WantsNames, bus_rules, contents_on}
use Rattle.varvara_bus.specs.Laws.{held-file, suits-file}
use Rattle.varvara_bus.specs.InstructionLaws.{RepresentsSince, carries, starts, goes-on}

-- an action takes the names of a folder where a file device reads that is not reading yet, and whose path is a folder's
pub record TakesNames (action : Action) (devices : DeviceState) : Type 0 where
  pub number : FileNumber
  pub reads : action ≡ ActsOnFile number Read
  pub folder : WantsFolder (file_in number devices) (Some devices.part)

-- an instruction takes the names of a folder where one of its writes does, once those before it were made
pub record InstructionTakesNames (devices : DeviceState) (core : Core) : Type 0 where
  pub before : List (ℕ × ℕ)
  pub port : ℕ
  pub byte : ℕ
  pub after : List (ℕ × ℕ)
  pub goes_on : opcode_at core ≢ 0
  pub in_order : writes_in (begun core).access ≡ before ++ (port, byte) ∷ after
  pub takes : TakesNames (action_of port) (reached_by devices core before).ports.devices

-- a path of the root part is a folder there where it is one in the tree
folder-in : (root path : Option (List ℕ)) (nodes : Nodes) → IsTrue (suits root path)
    → IfSome path (λ p. kind_at nodes p ≡ Folder) → IfSome path (λ p. kind_at (below root nodes) p ≡ Folder)
folder-in root None nodes in_root is = tt
folder-in None (Some path) nodes in_root is = cc
folder-in (Some root) (Some path) nodes in_root is = ap (λ observed. observed.kind) (observed-same root path nodes in_root) ∙ is

-- so memory runs out for the names that are observed in the root part
wants-in : (root : Option (List ℕ)) (part : Nodes) (parent : Bool) (device : FileState) (contents : Option Nodes) → Suits root device
    → HasFiles contents root part parent → WantsFolder device contents → WantsFolder device (Some part)
wants-in root part parent device None in_root has wants =
    let none = rootless device (rw has.0 at in_root) in
    let no : false ≡ true = sym (ap is_some none) ∙ wants.named in
    cc
wants-in root part parent device (Some nodes) in_root has wants = record {
  named = wants.named;
  names = record { looks = wants.names.looks; folder = rw has.0 (folder-in root device.path nodes in_root wants.names.folder) };
}

takes-in : (action : Action) (held : Devices) (contents : Option Nodes) (devices : DeviceState) → DevicesRepresent held devices
    → HasFiles contents devices.root devices.part devices.parent → WantsNames action held contents → TakesNames action devices
takes-in action held contents devices stands has wants = record {
  number = wants.number;
  reads = wants.reads;
  folder = wants-in devices.root devices.part devices.parent (file_in wants.number devices) contents
      (suits-file wants.number held devices stands) has (rw (held-file wants.number held devices stands) at wants.folder);
}

module _ {T O E : Type 0} (meaning : BusModel T O E) where
  -- an instruction for which memory ran out takes the names of a folder, in each state that the bus represented
  pub instruction-names : (core core_new : Core) (before now : Bus T O E) (devices : DeviceState)
      → BusRepresents (contents_on meaning.tree) before devices → Instruction (bus_rules meaning) core before (Err NoMemory) core_new now
      → InstructionTakesNames devices core
  instruction-names core core_new before now devices stands stopped =
      let at = carried-stopped (bus_rules meaning) (RepresentsSince meaning before) varvara (carries meaning before) core before
      (no_changes devices) NoMemory core_new now (starts meaning before devices stands) stopped in
      record {
        before = at.before;
        port = at.port;
        byte = at.byte;
        after = at.after;
        goes_on = goes-on meaning core core_new before now NoMemory stopped;
        in_order = at.in_order;
        takes = takes-in (action_of at.port) at.ports.devices.now (meaning.tree.state at.ports.tree.now).contents
            (reached_by devices core at.before).ports.devices at.same_ports.devices.devices at.same_ports.devices.files (at.stops.names refl);
      }
