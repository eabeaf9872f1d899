-- What a text assembles to.
use Rattle.std.specs.Prelude.{◌≡◌, ℕ, List, None}
use Rattle.tal_rom.specs.Assembly.{first_fault, rom_of}
use Rattle.tal_rom.specs.Rom.{trimmed}

-- the source has no fault, and its ROM is these bytes without the zeros at their end
pub record AssemblesTo (source bytes : List ℕ) : Type 0 where
  pub faultless : first_fault source ≡ None
  pub rom : rom_of source ≡ trimmed bytes
