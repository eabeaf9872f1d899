-- Words of one or two bytes on a stack and in memory, high byte first (Uxntal opcode reference).
use Rattle.std.specs.Prelude.{ℕ, ◌+◌, ◌-◌, ◌%◌, Bool, true, false, nat_lt, if◌then◌else◌, List, [], ◌∷◌}
use Rattle.std.specs.Prelude.{slice_index, slice_set}
use Rattle.uxn_memory.specs.Bytes.{short_at, with_short}
use Rattle.uxn_stacks.specs.Cells.{Cells, byte_below, short_below, lowered, pushed_byte, pushed_short}
use Rattle.uxn_opcodes.specs.declared.operation.Width.{Width}
use Rattle.uxn_opcodes.specs.declared.operation.Width.TheVariants.{Byte, Short}

-- how many bytes a word has
abbrev pub size_of : Width → ℕ
size_of Byte = 1
size_of Short = 2

-- the word of a stack with this many bytes between it and the pointer
unfoldable pub word_below : Cells → Width → ℕ → ℕ
word_below ring Byte depth = byte_below ring depth
word_below ring Short depth = short_below ring depth

-- a word pushed, cut to its width
unfoldable pub pushed : Cells → Width → ℕ → Cells
pushed ring Byte value = pushed_byte ring (value % 256)
pushed ring Short value = pushed_short ring (value % 65536)

-- words pushed one after the other
abbrev pub pushed_all : Cells → List (Width × ℕ) → Cells
pushed_all ring [] = ring
pushed_all ring (word ∷ words) = pushed_all (pushed ring word.0 word.1) words

-- the pointer lowered past this many bytes, unless keep mode is set
unfoldable pub dropped : Bool → Cells → ℕ → Cells
dropped true ring count = ring
dropped false ring count = lowered ring count

-- the word of memory at an address; addresses wrap after so many: 65536, or 256 in the zero page
unfoldable pub word_loaded : ℕ → Width → List ℕ → ℕ → ℕ
word_loaded wrap Byte memory at = slice_index memory at
word_loaded wrap Short memory at = short_at wrap memory at

-- memory with a word stored at an address, cut to its width
unfoldable pub memory_with_word : ℕ → Width → List ℕ → ℕ → ℕ → List ℕ
memory_with_word wrap Byte memory at value = slice_set memory at (value % 256)
memory_with_word wrap Short memory at value = with_short wrap memory at value

-- the address at a signed byte from another address
unfoldable pub relative : ℕ → ℕ → ℕ
relative at offset = if nat_lt offset 128 then (at + offset) % 65536 else (at + offset + 65536 - 256) % 65536

-- where a jump goes: in byte mode by a signed byte, in short mode to the short itself
unfoldable pub target : Width → ℕ → ℕ → ℕ
target Byte at place = relative at place
target Short at place = place
