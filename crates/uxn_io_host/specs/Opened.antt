-- What is open, and for what (profile).
use Rattle.std.specs.Prelude.{◌≡◌, ℕ, List, true, Option, Some, None}
use Rattle.std.specs.Fs.{new_options, with_read, with_append}
use Rattle.std.specs.Io.KnownBytes.{Appends as AppendsBytes}
use Rattle.std.specs.declared.fs.OpenOptions.{OpenOptions}
use Rattle.uxn_io_host.specs.declared.opened.Way.{Way}
use Rattle.uxn_io_host.specs.declared.opened.Way.TheVariants.{Reads, Appends as AppendsTo}
use Rattle.uxn_io_host.specs.declared.opened.OpenedFile.{OpenedFile}

-- a file is opened for reading alone, or for appending alone, and not made
abbrev pub options_of : Way → OpenOptions
options_of Reads = with_read new_options true
options_of AppendsTo = with_append new_options true

-- it is the file at this path, opened for this
pub record IsFor {F : Type 0} (there : List ℕ) (wanted : Way) (opened : OpenedFile F) : Type 0 where
  pub path : opened.path ≡ there
  pub way : opened.way ≡ wanted

-- the same file is open as before, for the same, or none still
abbrev pub IsSameOpen : {F : Type 0} → Option (OpenedFile F) → Option (OpenedFile F) → Type 0
IsSameOpen None now = now ≡ None
IsSameOpen (Some before) None = ⊥
IsSameOpen (Some before) (Some now) = (now.path ≡ before.path) × (now.way ≡ before.way)

-- the open file has these bytes more, where its bytes are known
abbrev pub Appended : {F : Type 0} → (F → Option (List ℕ)) → Option (OpenedFile F) → Option (OpenedFile F) → List ℕ → Type 0
Appended contents (Some before) (Some now) bytes = AppendsBytes (contents before.file) (contents now.file) bytes
Appended contents None now bytes = ⊥
Appended contents (Some before) None bytes = ⊥
