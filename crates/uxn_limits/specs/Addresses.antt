-- The addresses of a program (Uxntal opcode reference).
use Rattle.std.specs.Prelude.{◌≡◌}
use Rattle.uxn_limits.specs.declared.addresses.TheConstants as address

-- the addresses that definitions cite, by their numbers
pub record AreAddresses : Type 0 where
  pub first_address : address.FIRST_ADDRESS ≡ 0x0100
  pub memory_end : address.MEMORY_END ≡ 0x1_0000
