-- What lies in a folder (profile).
use Rattle.std.specs.Prelude.{◌≡◌, ◌≢◌, ℕ, Bool, true, false, List, Option, Some, None, Result, Ok, Err}
use Rattle.std.specs.List.{filter_map}
use Rattle.std.specs.Option.{option_map}
use Rattle.std.specs.FinMap as map
use Rattle.uxn_io_traits.specs.declared.trees.Kind.TheVariants.{Missing}
use Rattle.uxn_io_traits.specs.declared.trees.Entry.{Entry}
use Rattle.uxn_io_traits.specs.declared.trees.NamesStop.{NamesStop}
use Rattle.uxn_io_traits.specs.declared.trees.NamesStop.TheVariants.{Failed, NoMemory}
use Rattle.uxn_io_traits.specs.Files.{Node, Nodes, kind_of}
use Rattle.uxn_io_traits.specs.PathText.{parent_of, child_name}

-- what is listed of a path and its node
abbrev pub entry_in : List ℕ → List ℕ × Node → Option Entry
entry_in folder held = option_map (λ name. record { name = name; kind = kind_of (Some held.1) }) (child_name folder held.0)

-- the children of a folder, in byte order of their paths, which is that of their names
abbrev pub children : Nodes → List ℕ → List Entry
children nodes folder = filter_map (entry_in folder) (map.entries nodes)

-- an entry has one component, and something is there
pub record IsEntry (entry : Entry) : Type 0 where
  pub one : parent_of entry.name ≡ None
  pub there : entry.kind ≢ Missing

-- the tree failed; running out of memory is no fault of it
abbrev pub has_failed : {T : Type 0} → Result T NamesStop → Bool
has_failed (Ok value) = false
has_failed (Err Failed) = true
has_failed (Err NoMemory) = false
