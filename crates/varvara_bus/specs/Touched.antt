-- Which bytes of memory a word may change that is written to a port, with the bytes stored in the ports.
use Rattle.std.specs.Prelude.{ℕ, ◌+◌, ◌/◌, ◌%◌, List, slice_index, slice_set, if◌then◌else◌}
use Rattle.uxn_opcodes.specs.declared.operation.Width.{Width}
use Rattle.uxn_opcodes.specs.declared.operation.Width.TheVariants.{Byte, Short}
use Rattle.system_port.specs.declared.expansions.BankRange.{BankRange}
use Rattle.varvara_bus.specs.Effect.{footprint, action_of, range_of}
use Rattle.varvara_bus.specs.Footprints.{touches_memory}

-- a byte: what its action may change, once the byte is stored
abbrev pub touched_by_byte : List ℕ → List ℕ → ℕ → ℕ → BankRange
touched_by_byte memory page port byte = range_of (footprint (action_of port)).memory (slice_index (slice_set page port byte)) memory

-- a short: of two ports in a row at most one touches memory, and the other one only stores if it comes first
abbrev pub next_port : ℕ → ℕ
next_port port = (port + 1) % 256

unfoldable pub touched_by_word : List ℕ → List ℕ → Width → ℕ → ℕ → BankRange
touched_by_word memory page Byte port value = touched_by_byte memory page port (value % 256)
touched_by_word memory page Short port value =
    if touches_memory (action_of (next_port port))
    then touched_by_byte memory (slice_set page port (value / 256)) (next_port port) (value % 256)
    else touched_by_byte memory page port (value / 256)
