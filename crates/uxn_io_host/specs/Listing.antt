-- What is listed of a folder, and why none is (profile).
use Rattle.std.specs.Prelude.{◌≡◌, Bool, None, Result, Ok, Err}
use Rattle.std.specs.Ordering.{nat_cmp, is_lt}
use Rattle.std.specs.Cmp.Lexicographic.{slice_cmp}
use Rattle.std.specs.IoError.{error_kind, raw_os_error}
use Rattle.std.specs.declared.io.Error.{Error}
use Rattle.std.specs.declared.io.ErrorKind.TheVariants.{OutOfMemory}
use Rattle.uxn_io_traits.specs.declared.trees.Entry.{Entry}
use Rattle.uxn_io_traits.specs.declared.trees.NamesStop.{NamesStop}
use Rattle.uxn_io_traits.specs.declared.trees.NamesStop.TheVariants.{Failed, NoMemory}

-- this process has no memory left; the system did not answer so
abbrev pub IsOutOfMemory : Error → Type 0
IsOutOfMemory error = (error_kind error ≡ OutOfMemory) × (raw_os_error error ≡ None)

-- every answer of the system is a fault
pub record IsStopFor (error : Error) (stop : NamesStop) : Type 0 where
  pub memory : IsOutOfMemory error → stop ≡ NoMemory
  pub other : (IsOutOfMemory error → ⊥) → stop ≡ Failed

-- what was listed so far, or why no more is
abbrev pub Lists : {T : Type 0} → Result T Error → Result T NamesStop → Type 0
Lists (Ok value) answer = answer ≡ Ok value
Lists (Err error) (Ok value) = ⊥
Lists (Err error) (Err stop) = IsStopFor error stop

-- one name is before the other in byte order
abbrev pub is_before : Entry → Entry → Bool
is_before one other = is_lt (slice_cmp nat_cmp one.name other.name)
