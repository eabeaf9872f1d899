-- Which paths an instruction leaves alone.
use Rattle.std.specs.Prelude.{ℕ, List, ◌++◌, Option}
use Rattle.std.specs.List.{AllByRecursion}
use Rattle.uxn_io_traits.specs.AtPath.{Spares}
use Rattle.uxn_io_traits.specs.EachLaws.{each-append, each-so}
use Rattle.uxn_opcodes.specs.declared.Core.{Core}
use Rattle.file_ports.specs.Device.{FileState, Suits}
use Rattle.file_ports.specs.ActLaws.{lies-elsewhere}
use Rattle.varvara_bus.specs.Bus.{IsOutside}
use Rattle.varvara_bus.specs.State.{DeviceState}
use Rattle.varvara_bus.specs.Effect.{Footprint, footprint, action_of, effect}
use Rattle.varvara_bus.specs.Footprints.{IsWithin, effect-keeps}
use Rattle.varvara_bus.specs.Writes.{instruction-holds}
use Rattle.varvara_bus.specs.Model.{instruction_effect}
use Rattle.uxn_io_traits.specs.Outside.{Change, ToOut, ToErr, Creates, ToFile, Removes}

-- a path lies outside the root part, and the file devices suit the root
pub record IsApart (path : List ℕ) (root : Option (List ℕ)) (one other : FileState) : Type 0 where
  pub outside : IsOutside root path
  pub first : Suits root one
  pub second : Suits root other

abbrev pub IsSeparateFrom : List ℕ → DeviceState → Type 0
IsSeparateFrom path devices = IsApart path devices.root devices.first_file devices.second_file

-- changes leave a path alone, and it lies apart from the devices behind them
abbrev pub LeftAlone : List ℕ → List Change → DeviceState → Type 0
LeftAlone path changes devices = AllByRecursion (Spares path) changes × IsSeparateFrom path devices

-- a change within a footprint leaves such a path alone
within-spares : (path : List ℕ) (print : Footprint) (root : Option (List ℕ)) → IsOutside root path → (change : Change)
    → IsWithin print root change → Spares path change
within-spares path print root outside (ToOut byte) within = tt
within-spares path print root outside (ToErr byte) within = tt
within-spares path print root outside (Creates other) within = lies-elsewhere root path outside (Creates other) within
within-spares path print root outside (ToFile other byte) within =
    lies-elsewhere root path outside (ToFile other byte) within
within-spares path print root outside (Removes other) within = lies-elsewhere root path outside (Removes other) within

-- a write and an instruction leave such a path alone, and the file devices suit the root still
effect-spares : (path : List ℕ) (devices : DeviceState) (core : Core) (port byte : ℕ) (changes : List Change) → IsSeparateFrom path devices
    → AllByRecursion (Spares path) changes
    → let done = effect devices core port byte in LeftAlone path (changes ++ done.changes) done.devices
effect-spares path devices core port byte changes apart spares =
    let print = footprint (action_of port) in
    let keeps = effect-keeps devices core port byte in
    let suit = keeps.suit (apart.first, apart.second) in
    let done = (effect devices core port byte).changes in (
      each-append (Spares path) changes done spares (each-so (IsWithin print devices.root) (Spares path) done
          (within-spares path print devices.root apart.outside) (keeps.changes (apart.first, apart.second))),
      record { outside = rw keeps.root apart.outside; first = suit.0; second = suit.1 },
    )

pub instruction-spares : (path : List ℕ) (devices : DeviceState) (core : Core) → IsSeparateFrom path devices
    → let done = instruction_effect devices core in LeftAlone path done.changes done.devices
instruction-spares path devices core apart =
    instruction-holds (λ changes writes. AllByRecursion (Spares path) changes) (IsSeparateFrom path)
    (λ devices core port byte changes writes apart spares. effect-spares path devices core port byte changes apart spares) devices core apart tt
