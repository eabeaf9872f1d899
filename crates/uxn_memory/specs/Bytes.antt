-- Memory is 16 banks of 65,536 bytes, one list of 1,048,576 bytes from bank 0 on (Varvara device reference). Instructions
-- and devices address bank 0, and every address is taken modulo 65536 within its bank (Uxntal opcode reference).
use Rattle.std.specs.Prelude.{ℕ, zero, suc, ◌+◌, ◌-◌, ◌*◌, ◌/◌, ◌%◌, ◌≤◌, List, ◌++◌, length, take, drop, replicate}
use Rattle.std.specs.Prelude.{slice_index, slice_set, Bool, nat_lt, ◌==◌, ◌&&◌}
use Rattle.uxn_limits.specs.declared.limits.TheConstants.{LARGEST_ROM}

-- how many bytes all banks have together
abbrev pub memory_size : ℕ
memory_size = 1048576

-- the greatest program: it begins at 0100 of bank 0 and ends with the last bank
abbrev pub largest_rom : ℕ
largest_rom = LARGEST_ROM

-- this many bytes, all 0
unfoldable pub zeros : ℕ → List ℕ
zeros size = replicate size 0

-- all bytes where these are the first of them, and the rest is 0
unfoldable pub all_bytes : List ℕ → List ℕ
all_bytes first = first ++ zeros (memory_size - length first)

-- how much of a memory is kept: all of bank 0, and room for all banks
pub record BytesAreMaintained (first capacity : ℕ) : Type 0 where
  pub bank0 : 65536 ≤ first
  pub within : first ≤ memory_size
  pub room : memory_size ≤ capacity

-- the bytes that instructions and devices address
unfoldable pub bank0 : List ℕ → List ℕ
bank0 memory = take 65536 memory

-- where the byte at an address of a bank stands among all bytes
abbrev pub bank_place : ℕ → ℕ → ℕ
bank_place bank at = bank * 65536 + at % 65536

-- a place among all bytes is one of so many addresses of a bank, from an address on
abbrev pub in_run : ℕ → ℕ → ℕ → ℕ → Bool
in_run bank at count place = place / 65536 == bank && nat_lt ((place % 65536 + 65536 - at) % 65536) count

-- the short at an address: its high byte there, its low byte at the next one. Addresses wrap after so many: 65536, or 256 in the zero page
abbrev pub short_at : ℕ → List ℕ → ℕ → ℕ
short_at wrap memory at = slice_index memory at * 256 + slice_index memory ((at + 1) % wrap)

-- a short stored at an address: its high byte there, its low byte at the next one
abbrev pub with_short : ℕ → List ℕ → ℕ → ℕ → List ℕ
with_short wrap memory at value = slice_set (slice_set memory at (value / 256)) ((at + 1) % wrap) (value % 256)

-- these bytes in place of as many from a place on
abbrev pub with_bytes : List ℕ → ℕ → List ℕ → List ℕ
with_bytes memory at bytes = take at memory ++ bytes ++ drop (at + length bytes) memory

-- the byte at an address of one bank put at an address of another
abbrev pub copied : List ℕ → ℕ → ℕ → ℕ → ℕ → List ℕ
copied memory from_bank from to_bank to = slice_set memory (bank_place to_bank to) (slice_index memory (bank_place from_bank from))

-- the first bytes of a run are set to a value, one address after the other
unfoldable pub filled : List ℕ → ℕ → ℕ → ℕ → ℕ → List ℕ
filled memory zero bank at value = memory
filled memory (suc count) bank at value = slice_set (filled memory count bank at value) (bank_place bank (at + count)) value

-- the bytes of a run copied one after the other, the lowest address first
unfoldable pub copied_up : List ℕ → ℕ → ℕ → ℕ → ℕ → ℕ → List ℕ
copied_up memory zero from_bank from to_bank to = memory
copied_up memory (suc count) from_bank from to_bank to =
    copied (copied_up memory count from_bank from to_bank to) from_bank (from + count) to_bank (to + count)

-- the bytes of a run copied one after the other, the highest address first
unfoldable pub copied_down : List ℕ → ℕ → ℕ → ℕ → ℕ → ℕ → List ℕ
copied_down memory zero from_bank from to_bank to = memory
copied_down memory (suc count) from_bank from to_bank to =
    copied_down (copied memory from_bank (from + count) to_bank (to + count)) count from_bank from to_bank to
