-- What the five actions of a file device do (Varvara device reference: File; profile).
use Rattle.std.specs.Prelude.{ℕ, ◌+◌, ◌-◌, min, Bool, true, false, not, ◌&&◌, ◌||◌, List, [], ◌∷◌, take, drop, length}
use Rattle.std.specs.Prelude.{◌++◌, map as list_map}
use Rattle.std.specs.Prelude.{Option, Some, None, if◌then◌else◌}
use Rattle.std.specs.Option.{option_eq, option_map}
use Rattle.std.specs.Str.{bytes_eq}
use Rattle.std.specs.FinMap as map
use Rattle.uxn_io_traits.specs.declared.trees.Kind.{Kind}
use Rattle.uxn_io_traits.specs.declared.trees.Kind.TheVariants.{Missing, File, Folder}
use Rattle.uxn_io_traits.specs.declared.trees.Entry.{Entry}
use Rattle.uxn_io_traits.specs.Files.{Nodes, kind_at, file_bytes_at, is_folder, has_parent}
use Rattle.uxn_io_traits.specs.Children.{children}
use Rattle.uxn_io_traits.specs.Outside.{Change, Creates, ToFile, Removes}
use Rattle.uxn_memory.specs.Bytes.{bank0, with_bytes}
use Rattle.file_ports.specs.declared.mode.Mode.{Mode}
use Rattle.file_ports.specs.declared.mode.Mode.TheVariants.{Idle, ReadingFile, ReadingListing, Writing}
use Rattle.file_ports.specs.Device.{FileState, idle_at, is_reading, is_writing}
use Rattle.file_ports.specs.Names.{path_named}
use Rattle.file_ports.specs.Place.{bytes_on}
use Rattle.file_ports.specs.Signs.{signs}
use Rattle.file_ports.specs.Listing.{folder_listing}

-- the actions, each with the address, the length and the append bit as far as it has them
pub data FileAction : Type 0 where
  Name : (at : ℕ) → FileAction
  Read : (at length : ℕ) → FileAction
  Write : (at length : ℕ) → (keep : Bool) → FileAction
  Stat : (at length : ℕ) → FileAction
  Delete : FileAction

-- what an action does: the value of the success port, the device and memory after it, and its changes to the tree
pub record FileOutcome : Type 0 where
  pub success : ℕ
  pub device : FileState
  pub memory : List ℕ
  pub changes : List Change

-- what a device sees: its path, what is there, the bytes of a file, what lies in a folder, and whether a file can be made
pub record Observed : Type 0 where
  pub path : List ℕ
  pub kind : Kind
  pub bytes : List ℕ
  pub entries : List Entry
  pub can_make : Bool

-- a file can be made where the parent is a folder and the path is none; whether the root's own parent is one is told beside the
-- root part
abbrev pub can_make_in : Option (List ℕ) → Nodes → Bool → List ℕ → Bool
can_make_in root part parent path =
    (if option_eq bytes_eq root (Some path) then parent else has_parent part path) && not (is_folder (map.get part path))

abbrev pub observed_in : Option (List ℕ) → Nodes → Bool → List ℕ → Observed
observed_in root part parent path = record {
  path = path;
  kind = kind_at part path;
  bytes = file_bytes_at part path;
  entries = children part path;
  can_make = can_make_in root part parent path;
}

-- what a device sees of a whole tree, where no path is the root's own
abbrev pub observed_file : Nodes → List ℕ → Observed
observed_file nodes path = observed_in None nodes false path

-- a value of the success port, and no change
abbrev pub quiet : ℕ → FileState → List ℕ → FileOutcome
quiet success device memory = record { success = success; device = device; memory = memory; changes = [] }

-- a device that is not reading first looks at its path
abbrev pub looked : Kind → List Entry → Mode
looked Missing entries = Idle
looked (File size) entries = ReadingFile 0
looked Folder entries = ReadingListing 0 (folder_listing entries)

abbrev pub reading : Mode → Observed → Mode
reading mode observed = if is_reading mode then mode else looked observed.kind observed.entries

-- what a reading device gives; of a path that is no file any more nothing is left
abbrev pub given : Mode → Observed → ℕ → List ℕ
given (ReadingFile place) observed count = bytes_on observed.bytes place count
given (ReadingListing place listing) observed count = bytes_on listing place count
given _ observed count = []

-- what a read gives, so many bytes at most
abbrev pub piece_read : ℕ → FileState → Option Observed → List ℕ
piece_read count device None = []
piece_read count device (Some observed) = given (reading device.mode observed) observed count

-- the place moves by their number
abbrev pub moved : Mode → ℕ → Mode
moved (ReadingFile place) count = ReadingFile (place + count)
moved (ReadingListing place listing) count = ReadingListing (place + count) listing
moved mode count = mode

-- a read puts the bytes in memory, and tells how many
abbrev pub reads : ℕ → ℕ → FileState → List ℕ → Option Observed → FileOutcome
reads at count device memory None = quiet 0 device memory
reads at count device memory (Some observed) =
    let mode = reading device.mode observed in let piece = given mode observed count in
    quiet (length piece) (record { path = Some observed.path; mode = moved mode (length piece) }) (with_bytes memory at piece)

-- a file is there
abbrev pub is_file : Kind → Bool
is_file (File size) = true
is_file _ = false

-- a writing device goes on with its file, and one that keeps its file with the one that is there; else the file is made empty
-- first. What is done to begin, if it can begin
abbrev pub begun : Bool → Bool → Observed → Option (List Change)
begun goes_on keep observed =
    if (goes_on || keep) && is_file observed.kind then Some []
    else if not goes_on && observed.can_make then Some (Creates observed.path ∷ [])
    else None

-- bytes of memory are added to the file, where a write can begin
abbrev pub adds : List ℕ → List ℕ → List ℕ → Option (List Change) → FileOutcome
adds path memory piece None = quiet 0 (idle_at (Some path)) memory
adds path memory piece (Some first) = record (quiet (length piece) (record { path = Some path; mode = Writing }) memory) {
  changes = first ++ list_map (λ byte. ToFile path byte) piece;
}

abbrev pub writes : ℕ → ℕ → Bool → FileState → List ℕ → Option Observed → FileOutcome
writes at count keep device memory None = quiet 0 device memory
writes at count keep device memory (Some observed) =
    adds observed.path memory (take count (drop at (bank0 memory))) (begun (is_writing device.mode) keep observed)

-- a stat puts signs in memory, and tells their number where something is there (profile); the device goes on as before
abbrev pub stat_success : Kind → ℕ → ℕ
stat_success Missing count = 0
stat_success _ count = count

abbrev pub stats : ℕ → ℕ → FileState → List ℕ → Option Observed → FileOutcome
stats at count device memory None = quiet 0 device (with_bytes memory at (signs count Missing))
stats at count device memory (Some observed) =
    quiet (stat_success observed.kind count) device (with_bytes memory at (signs count observed.kind))

-- a delete takes a file away, and tells 1 where one was there (profile)
abbrev pub deletes : FileState → List ℕ → Option Observed → FileOutcome
deletes device memory None = quiet 0 device memory
deletes device memory (Some observed) = let idle = idle_at (Some observed.path) in
    if is_file observed.kind then record (quiet 1 idle memory) { changes = Removes observed.path ∷ [] } else quiet 0 idle memory

-- so many bytes are meant: none past ffff
abbrev pub count_from : ℕ → ℕ → ℕ
count_from at length = min length (65536 - at)

-- what an action does by what the device sees, if it sees anything
abbrev pub acts : FileAction → Option (List ℕ) → FileState → List ℕ → Option Observed → FileOutcome
acts (Name at) root device memory observed = quiet 0 (idle_at (path_named root memory at)) memory
acts (Read at length) root device memory observed = reads at (count_from at length) device memory observed
acts (Write at length keep) root device memory observed = writes at (count_from at length) keep device memory observed
acts (Stat at length) root device memory observed = stats at (count_from at length) device memory observed
acts Delete root device memory observed = deletes device memory observed

-- what an action does, by the root part of a tree and by whether the root's parent is a folder
abbrev pub act : FileAction → Option (List ℕ) → Nodes → Bool → FileState → List ℕ → FileOutcome
act action root part parent device memory = acts action root device memory (option_map (observed_in root part parent) device.path)
