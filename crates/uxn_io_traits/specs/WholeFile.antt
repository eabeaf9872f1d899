-- What reading a whole file answers.
use Rattle.std.specs.Prelude.{◌≡◌, ℕ, ◌<◌, ◌≤◌, nat_lt, List, length, Option, Some, None, Bool, true, false, Result, Ok}
use Rattle.std.specs.Prelude.{Err, if◌then◌else◌, ⊤}
use Rattle.uxn_io_traits.specs.ByteList.{tight}
use Rattle.uxn_io_traits.specs.declared.trees.FileBytes.{FileBytes}
use Rattle.uxn_io_traits.specs.declared.trees.FileBytes.TheVariants.{Found, Missing, TooLong}
use Rattle.uxn_io_traits.specs.declared.trees.ReadStop.{ReadStop}
use Rattle.uxn_io_traits.specs.declared.trees.ReadStop.TheVariants.{Failed, NoMemory}

-- the answer for what stands at a path: no file, a file over the limit, or all its bytes
abbrev pub whole_file : Option (List ℕ) → ℕ → FileBytes
whole_file None limit = Missing
whole_file (Some bytes) limit = if nat_lt limit (length bytes) then TooLong (length bytes) else Found (tight bytes)

-- no more bytes than the limit are given, and no file within it is too long
abbrev pub KeepsLimit : ℕ → FileBytes → Type 0
KeepsLimit limit (Found bytes) = length bytes.list ≤ limit
KeepsLimit limit Missing = ⊤
KeepsLimit limit (TooLong n) = limit < n

-- of all the bytes of a file: they are given, or are more than the limit
abbrev pub IsAllOf : List ℕ → ℕ → FileBytes → Type 0
IsAllOf all limit (Found bytes) = bytes ≡ tight all
IsAllOf all limit Missing = ⊥
IsAllOf all limit (TooLong n) = limit < length all

-- the tree failed; running out of memory is no fault of it
abbrev pub has_failed : {T : Type 0} → Result T ReadStop → Bool
has_failed (Ok value) = false
has_failed (Err Failed) = true
has_failed (Err NoMemory) = false
