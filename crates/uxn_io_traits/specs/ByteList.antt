-- A list of bytes, and how many more it has room for.
use Rattle.std.specs.Prelude.{◌≡◌, ℕ, ◌+◌, List, length}

pub record ByteList : Type 0 where
  pub list : List ℕ
  pub spare : ℕ

-- these bytes, with room for no more
abbrev pub tight : List ℕ → ByteList
tight bytes = record { list = bytes; spare = 0 }

-- it has so much room in all
abbrev pub HasRoom : ℕ → ByteList → Type 0
HasRoom room bytes = length bytes.list + bytes.spare ≡ room
