-- What a file device is (Varvara device reference: File).
use Rattle.std.specs.Prelude.{ℕ, Bool, true, false, IsTrue, List, Option, Some, None}
use Rattle.file_ports.specs.declared.mode.Mode.{Mode}
use Rattle.file_ports.specs.declared.mode.Mode.TheVariants.{Idle, ReadingFile, ReadingListing, Writing}
use Rattle.file_ports.specs.RootPart.{is_in}

-- its path, if it has one, and what it is doing
pub record FileState : Type 0 where
  pub path : Option (List ℕ)
  pub mode : Mode

-- at this path, and doing nothing
abbrev pub idle_at : Option (List ℕ) → FileState
idle_at path = record { path = path; mode = Idle }

-- it reads a file, or a folder's listing
abbrev pub is_reading : Mode → Bool
is_reading (ReadingFile place) = true
is_reading (ReadingListing place listing) = true
is_reading _ = false

-- it is writing
abbrev pub is_writing : Mode → Bool
is_writing Writing = true
is_writing _ = false

-- a device suits a root where it has no path, or its path is the root's own or beneath it
abbrev pub suits : Option (List ℕ) → Option (List ℕ) → Bool
suits root None = true
suits None (Some path) = false
suits (Some root) (Some path) = is_in root path

abbrev pub Suits : Option (List ℕ) → FileState → Type 0
Suits root device = IsTrue (suits root device.path)
