-- What a name in memory names (Varvara device reference: File/name; profile).
use Rattle.std.specs.Prelude.{ℕ, ◌==◌, List, ◌++◌, take, drop, codes, position, Option, Some, None, if◌then◌else◌}
use Rattle.std.specs.Option.{option_map, option_and_then}
use Rattle.std.specs.Result.{result_ok}
use Rattle.std.specs.Str.{bytes_eq}
use Rattle.uxn_io_traits.specs.PathText.{path_of, joined}
use Rattle.uxn_memory.specs.Bytes.{bank0}

-- the 256 bytes of bank 0 from an address on; addresses wrap
unfoldable pub bytes_around : List ℕ → ℕ → List ℕ
bytes_around memory at = take 256 (drop at (bank0 memory) ++ bank0 memory)

-- what stands before the first zero byte of a list, where it has one
abbrev pub before_zero : List ℕ → Option (List ℕ)
before_zero bytes = option_map (λ end. take end bytes) (position (λ byte. byte == 0) bytes)

-- beneath a root: `.` is the root itself, and a path is joined to the root's
unfoldable pub named_in : List ℕ → List ℕ → Option (List ℕ)
named_in root name =
    if bytes_eq name (codes ".") then Some root
    else option_and_then (joined root) (result_ok (path_of name))

-- the path that the name at an address names, where there is a root
abbrev pub path_named : Option (List ℕ) → List ℕ → ℕ → Option (List ℕ)
path_named None memory at = None
path_named (Some root) memory at = option_and_then (named_in root) (before_zero (bytes_around memory at))
