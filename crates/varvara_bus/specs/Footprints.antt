-- Laws of footprints: an action touches nothing but what its footprint says.
use Rattle.std.specs.Prelude.{◌≡◌, ℕ, ◌==◌, ◌||◌, not, Bool, true, false, ◌+◌, ◌%◌, ◌≤◌, List, []}
use Rattle.std.specs.Prelude.{◌∷◌, length, Option, option_map, is_some, IsTrue, refl}
use Rattle.std.proofs.Common.{sym, ◌∙◌, inl, inr, rules, true≢false, arith}
use Rattle.std.proofs.lemmas.Bool.{cases_Bool, eqb-true, and_parts}
use Rattle.std.specs.List.{list_all, AllByRecursion}
use Rattle.uxn_io_traits.specs.EachLaws.{each-map}
use Rattle.uxn_limits.specs.declared.ports.TheConstants.{CONSOLE_WRITE}
use Rattle.uxn_io_traits.specs.Outside.{Change, ToOut, ToErr, Creates, ToFile, Removes}
use Rattle.uxn_opcodes.specs.declared.Core.{Core}
use Rattle.file_ports.specs.Device.{Suits}
use Rattle.file_ports.specs.RootPart.{IsIn, LieIn}
use Rattle.file_ports.specs.Actions.{FileOutcome, observed_in, count_from}
use Rattle.file_ports.specs.ActLaws.{act-lies, act-suits, of-tree}
use Rattle.file_ports.specs.MemoryLaws.{places_touched, ChangesAt, acts-change}
use Rattle.system_port.specs.Expansion.{no_range}
use Rattle.system_port.specs.RangeLaws.{ChangesWithin, stays-within, expanded-within}
use Rattle.varvara_bus.specs.declared.ports.Action.{Action}
use Rattle.varvara_bus.specs.declared.ports.Action.TheVariants.{Stores, Expands, SetsWorkingPointer, SetsReturnPointer}
use Rattle.varvara_bus.specs.declared.ports.Action.TheVariants.{PutsDebugText, PutsOut, PutsErr}
use Rattle.varvara_bus.specs.declared.ports.Action.TheVariants.{AsksWidth, AsksHeight, DrawsPixel, DrawsSprite, StartsNote, ActsOnFile}
use Rattle.varvara_bus.specs.declared.ports.FileNumber.{FileNumber}
use Rattle.varvara_bus.specs.declared.ports.FileNumber.TheVariants.{First, Second}
use Rattle.varvara_bus.specs.declared.ports.FileAct.{FileAct}
use Rattle.varvara_bus.specs.declared.ports.FileAct.TheVariants.{Stat, Delete, Name, Read, Write}
use Rattle.varvara_bus.specs.History.{Store, stored, stored_after, stored_short}
use Rattle.varvara_bus.specs.State.{DeviceState, storing}
use Rattle.varvara_bus.specs.FileActs.{file_base, file_in, file_action, file_outcome, file_acted, length_in}
use Rattle.varvara_bus.specs.Effect.{Effect, Footprint, footprint, memory_filled, range_meant, range_of}
use Rattle.varvara_bus.specs.Effect.{actions, action_in, action_of, act, effect, debug_bytes}

-- a change that is within a footprint: of a file in the root part, of the standard output where it is touched, or of the error output
abbrev pub IsWithin : Footprint → Option (List ℕ) → Change → Type 0
IsWithin print root (ToOut byte) = IsTrue print.out
IsWithin print root (ToErr byte) = Unit {0}
IsWithin print root (Creates path) = IsIn root (Creates path)
IsWithin print root (ToFile path byte) = IsIn root (ToFile path byte)
IsWithin print root (Removes path) = IsIn root (Removes path)

-- both file devices suit the root
abbrev pub FilesSuit : DeviceState → Type 0
FilesSuit devices = Suits devices.root devices.first_file × Suits devices.root devices.second_file

-- what was done with these bytes in the ports keeps to a footprint; the bytes of the stacks, the root and whether its parent is a folder
-- are never touched
pub record KeepsTo (print : Footprint) (held : ℕ → ℕ) (devices : DeviceState) (core : Core) (done : Effect) : Type 0 where
  pub memory : 65536 ≤ length core.memory → ChangesWithin (range_of print.memory held core.memory) core.memory done.core.memory
  pub working : done.core.working.bytes ≡ core.working.bytes
  pub returns : done.core.returns.bytes ≡ core.returns.bytes
  pub part : print.tree ≡ false → done.devices.part ≡ devices.part
  pub root : done.devices.root ≡ devices.root
  pub parent : done.devices.parent ≡ devices.parent
  pub suit : FilesSuit devices → FilesSuit done.devices
  pub changes : FilesSuit devices → AllByRecursion (IsWithin print devices.root) done.changes

-- the changes of a file device are
lies-within : (print : Footprint) (root : Option (List ℕ)) (changes : List Change) → LieIn root changes
    → AllByRecursion (IsWithin print root) changes
lies-within print root [] lie = tt
lies-within print root (ToOut byte ∷ changes) lie = absurd (of-tree root (ToOut byte ∷ changes) lie).0
lies-within print root (ToErr byte ∷ changes) lie = (tt, lies-within print root changes lie.1)
lies-within print root (Creates path ∷ changes) lie = (lie.0, lies-within print root changes lie.1)
lies-within print root (ToFile path byte ∷ changes) lie = (lie.0, lies-within print root changes lie.1)
lies-within print root (Removes path ∷ changes) lie = (lie.0, lies-within print root changes lie.1)

-- the bytes that a file device changes are
meant-within : (at room : ℕ) (before after : List ℕ) → ChangesAt (at, count_from at room) before after
    → ChangesWithin (range_meant at room) before after
meant-within at room before after changes = record {
  size = changes.size;
  same = λ place out. changes.same place (λ k less is. out k less (is ∙ omega arith));
}

none-within : (before after : List ℕ) → ChangesAt (0, 0) before after → ChangesWithin no_range before after
none-within before after changes = record {
  size = changes.size;
  same = λ place out. changes.same place (λ k less is. absurd (omega arith));
}

file-within : (number : FileNumber) (part : FileAct) (devices : DeviceState) (memory : List ℕ) → 65536 ≤ length memory
    → ChangesWithin (range_of (memory_filled part (file_base number)) (stored devices.history) memory) memory
    (file_outcome number part devices memory).memory
file-within number part devices memory size =
    let base = file_base number in
    let device = file_in number devices in
    let seen = option_map (observed_in devices.root devices.part devices.parent) device.path in
    let changes = acts-change (file_action part devices.history base) devices.root device memory seen size in
    by part changes
  where
    by : (part : FileAct) → ChangesAt (places_touched (file_action part devices.history (file_base number))) memory
        (file_outcome number part devices memory).memory
        → ChangesWithin (range_of (memory_filled part (file_base number)) (stored devices.history) memory) memory
        (file_outcome number part devices memory).memory
    by Stat changes = meant-within (stored_short devices.history (file_base number + 0x04))
        (length_in devices.history (file_base number)) memory _ changes
    by Read changes = meant-within (stored_short devices.history (file_base number + 0x0c))
        (length_in devices.history (file_base number)) memory _ changes
    by Name changes = none-within memory _ changes
    by Delete changes = none-within memory _ changes
    by Write changes = none-within memory _ changes

-- the other parts of a state stay where a file device acted, and both suit the root still
in-suits : (number : FileNumber) (devices : DeviceState) → FilesSuit devices → Suits devices.root (file_in number devices)
in-suits First devices suit = suit.0
in-suits Second devices suit = suit.1

acted-keeps : (number : FileNumber) (outcome : FileOutcome) (devices : DeviceState) → (file_acted number outcome devices).root ≡ devices.root
    × (file_acted number outcome devices).parent ≡ devices.parent
    × (FilesSuit devices → Suits devices.root outcome.device → FilesSuit (file_acted number outcome devices))
acted-keeps First outcome devices = (refl, refl, λ suit now. (now, suit.1))
acted-keeps Second outcome devices = (refl, refl, λ suit now. (suit.0, now))

keeps : (action : Action) (byte : ℕ) (stores : List Store) (devices : DeviceState) (core : Core)
    → KeepsTo (footprint action) (stored (stored_after devices.history stores)) devices core (act action byte (storing stores devices) core)
keeps Stores byte stores devices core = search (rules, stays-within)
keeps Expands byte stores devices core = search (rules, expanded-within)
keeps SetsWorkingPointer byte stores devices core = search (rules, stays-within)
keeps SetsReturnPointer byte stores devices core = search (rules, stays-within)
keeps PutsDebugText byte stores devices core =
    let text = each-map (IsWithin (footprint PutsDebugText) devices.root) (λ letter. ToErr letter) (debug_bytes byte core) (λ letter. tt) in
    search (rules, stays-within, text)
keeps PutsOut byte stores devices core = search (rules, stays-within)
keeps PutsErr byte stores devices core = search (rules, stays-within)
keeps AsksWidth byte stores devices core = search (rules, stays-within)
keeps AsksHeight byte stores devices core = search (rules, stays-within)
keeps DrawsPixel byte stores devices core = search (rules, stays-within)
keeps DrawsSprite byte stores devices core = search (rules, stays-within)
keeps (StartsNote voice) byte stores devices core = search (rules, stays-within)
keeps (ActsOnFile number part) byte stores devices core =
    let after = storing stores devices in
    let action = file_action part after.history (file_base number) in
    let device = file_in number after in
    let acted = acted-keeps number (file_outcome number part after core.memory) after in
    record {
      memory = λ size. file-within number part after core.memory size;
      working = refl;
      returns = refl;
      part = λ none. cc;
      root = acted.0;
      parent = acted.1;
      suit = λ suit. acted.2 suit (act-suits action devices.root devices.part devices.parent device core.memory (in-suits number after suit));
      changes = λ suit. lies-within (footprint (ActsOnFile number part)) devices.root (file_outcome number part after core.memory).changes
          (act-lies action devices.root devices.part devices.parent device core.memory (in-suits number after suit));
    }

pub effect-keeps : (devices : DeviceState) (core : Core) (port byte : ℕ)
    → KeepsTo (footprint (action_of port)) (stored ((port, byte) ∷ devices.history)) devices core (effect devices core port byte)
unfolding effect
effect-keeps devices core port byte = keeps (action_of port) byte ((port, byte) ∷ []) devices core

-- what a test says of each row of the table and of a plain store it says of the action of each port
table-tells : (test : ℕ → Action → Bool) (rows : List (ℕ × Action)) (port : ℕ) → list_all (λ row. test row.0 row.1) rows ≡ true
    → test port Stores ≡ true → test port (action_in rows port) ≡ true
table-tells test [] port all other = other
table-tells test (row ∷ rows) port all other =
    let both = and_parts (test row.0 row.1) _ all in
    elim (cases_Bool (port == row.0)) [
      | inl same ↦ rw (same, eqb-true port row.0 same) both.0
      | inr apart ↦ rw apart (table-tells test rows port both.1 other)
    ]

-- port 18 alone puts bytes on the standard output
implied : (a b : Bool) → (not a || b) ≡ true → b ≡ false → a ≡ false
implied true b is none = absurd (true≢false (sym is ∙ none))
implied false b is none = refl

pub puts-nothing : (port : ℕ) → (port == CONSOLE_WRITE) ≡ false → (footprint (action_of port)).out ≡ false
puts-nothing port = implied _ _ (table-tells (λ port action. not (footprint action).out || port == CONSOLE_WRITE) actions port refl refl)

-- a port whose write touches memory stands behind one that only stores: the other byte of a short
abbrev pub touches_memory : Action → Bool
touches_memory action = is_some (footprint action).memory

abbrev only_stores : Action → Bool
only_stores Stores = true
only_stores _ = false

stores-only : (action : Action) → only_stores action ≡ true → action ≡ Stores
stores-only Stores is = refl
stores-only _ is = cc

follows : (a b : Bool) → (not a || b) ≡ true → a ≡ true → b ≡ true
follows a b is some = rw some at is

pub touches-behind : (port : ℕ) → touches_memory (action_of port) ≡ true → action_of ((port + 255) % 256) ≡ Stores
touches-behind port touches =
    let told = table-tells (λ port action. not (touches_memory action) || only_stores (action_of ((port + 255) % 256))) actions port refl refl in
    stores-only (action_of ((port + 255) % 256)) (follows (touches_memory (action_of port)) _ told touches)
