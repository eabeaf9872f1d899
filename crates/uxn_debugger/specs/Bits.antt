-- A set of addresses as 1,024 words, with a bit for each address.
use Rattle.std.specs.Prelude.{ℕ, ◌/◌, ◌%◌, ◌==◌, List, slice_index}
use Rattle.std.specs.Int.{bit_at}
use Rattle.uxn_debugger.specs.Log.{AddressSet}

abbrev pub addresses_in : List ℕ → AddressSet
addresses_in bits address = bit_at (slice_index bits (address / 64)) (address % 64) == 1
