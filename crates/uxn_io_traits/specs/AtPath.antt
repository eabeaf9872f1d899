-- What stands at a path, and which changes leave it alone.
use Rattle.std.specs.Prelude.{◌≡◌, ℕ, false, ◌⊎◌, List, ◌++◌, Option, Some, None, IfSome}
use Rattle.std.specs.Option.{option_map}
use Rattle.std.specs.Str.{bytes_eq}
use Rattle.std.specs.FinMap as nodes_map
use Rattle.uxn_io_traits.specs.Files.{Nodes, Node, File}
use Rattle.uxn_io_traits.specs.Outside.{Change, ToOut, ToErr, Creates, ToFile, Removes}

-- what is known to stand at a path
abbrev pub contents_at : List ℕ → Option Nodes → Option (Option Node)
contents_at path contents = option_map (λ nodes. nodes_map.get nodes path) contents

-- the path at which a change changes what stands there
abbrev pub path_changed : Change → Option (List ℕ)
path_changed (ToOut byte) = None
path_changed (ToErr byte) = None
path_changed (Creates path) = Some path
path_changed (ToFile path byte) = Some path
path_changed (Removes path) = Some path

-- a change of another path, or of none
abbrev pub Spares : List ℕ → Change → Type 0
Spares path change = IfSome (path_changed change) (λ other. bytes_eq path other ≡ false)

-- a change that makes nothing at a path and takes nothing away there, but may add a byte to the file that is there
abbrev pub Adds : List ℕ → Change → Type 0
Adds path (Creates other) = bytes_eq path other ≡ false
Adds path (Removes other) = bytes_eq path other ≡ false
Adds path _ = Unit {0}

-- at a path stands what stood there, or a file with a prefix of what it is to hold
abbrev pub HoldsFilePrefix : Option (Option Node) → Option (Option Node) → Option (Option Node) → Type 0
HoldsFilePrefix before now whole = (now ≡ before)
    ⊎ ((bytes : List ℕ) × (rest : List ℕ) × (now ≡ Some (Some (File bytes))) × (whole ≡ Some (Some (File (bytes ++ rest)))))
