-- The expansion port: what the record at an address does to memory (Varvara device reference: System/expansion).
use Rattle.std.specs.Prelude.{ℕ, ◌+◌, ◌%◌, ◌==◌, nat_lt, List, if◌then◌else◌, slice_index}
use Rattle.uxn_memory.specs.Bytes.{short_at, filled, copied_up, copied_down}
use Rattle.system_port.specs.declared.expansions.BankRange.{BankRange}
use Rattle.system_port.specs.declared.expansions.Record.{Record}
use Rattle.system_port.specs.declared.expansions.Record.TheVariants.{Fill, CopyUp, CopyDown, Unknown}

-- the byte and the short so many bytes into the record, in bank 0; every address is taken modulo 65536
abbrev pub byte_in : List ℕ → ℕ → ℕ → ℕ
byte_in memory at offset = slice_index memory ((at + offset) % 65536)

abbrev pub short_in : List ℕ → ℕ → ℕ → ℕ
short_in memory at offset = short_at 65536 memory ((at + offset) % 65536)

-- a bank and an address in it, with the length of the record
abbrev pub range_in : List ℕ → ℕ → ℕ → BankRange
range_in memory at offset = record {
  bank = short_in memory at offset;
  first = short_in memory at (offset + 2);
  count = short_in memory at 1;
}

-- the record at an address: an operation, a length, then banks with addresses and a value as the operation says
unfoldable pub record_at : List ℕ → ℕ → Record
record_at memory at =
    if byte_in memory at 0 == 0 then Fill (range_in memory at 3) (byte_in memory at 7)
    else if byte_in memory at 0 == 1 then CopyUp (range_in memory at 3) (range_in memory at 7)
    else if byte_in memory at 0 == 2 then CopyDown (range_in memory at 3) (range_in memory at 7)
    else Unknown

-- there are sixteen banks; a record that names another does nothing, whatever its length (profile)
abbrev pub where_there : {A : Type 0} → BankRange → A → A → A
where_there range done other = if nat_lt range.bank 16 then done else other

-- the bytes that a record changes at most: those of its target
abbrev pub no_range : BankRange
no_range = record { bank = 0; first = 0; count = 0 }

abbrev pub target_of : Record → BankRange
target_of (Fill to value) = to
target_of (CopyUp from to) = where_there from to no_range
target_of (CopyDown from to) = where_there from to no_range
target_of Unknown = no_range

unfoldable pub target_at : List ℕ → ℕ → BankRange
target_at memory at = target_of (record_at memory at)

-- what a record does to memory
abbrev pub done : Record → List ℕ → List ℕ
done (Fill to value) memory = where_there to (filled memory to.count to.bank to.first value) memory
done (CopyUp from to) memory =
    where_there from (where_there to (copied_up memory to.count from.bank from.first to.bank to.first) memory) memory
done (CopyDown from to) memory =
    where_there from (where_there to (copied_down memory to.count from.bank from.first to.bank to.first) memory) memory
done Unknown memory = memory

-- the record is read whole from bank 0 before memory changes
unfoldable pub expanded : List ℕ → ℕ → List ℕ
expanded memory at = done (record_at memory at) memory
