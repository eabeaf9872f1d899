-- A stack is 256 bytes and a pointer; every place is taken modulo 256 (Uxntal opcode reference: the stacks are circular).
use Rattle.std.specs.Prelude.{ℕ, ◌+◌, ◌-◌, ◌*◌, ◌/◌, ◌%◌, List, replicate, slice_index, slice_set}

-- the bytes, and the place that the next byte is pushed at
pub record Cells : Type 0 where
  pub bytes : List ℕ
  pub pointer : ℕ

-- all bytes 0, the pointer at 0
unfoldable pub new_ring : Cells
new_ring = record { bytes = replicate 256 0; pointer = 0 }

-- the stack with its pointer at a place
abbrev pub pointed : Cells → ℕ → Cells
pointed ring pointer = record ring { pointer = pointer }

-- the byte at a place
abbrev pub cell : Cells → ℕ → ℕ
cell ring place = slice_index ring.bytes (place % 256)

-- the byte with this many bytes between it and the pointer, which is at the pointer - 1 - depth
abbrev pub byte_below : Cells → ℕ → ℕ
byte_below ring depth = cell ring (ring.pointer + 512 - 1 - depth)

-- the short that has this many bytes between it and the pointer: its low byte above its high byte
abbrev pub short_below : Cells → ℕ → ℕ
short_below ring depth = byte_below ring (depth + 1) * 256 + byte_below ring depth

-- the pointer this many places lower
abbrev pub lowered : Cells → ℕ → Cells
lowered ring count = record ring { pointer = (ring.pointer + 256 - count) % 256 }

-- a byte set at the pointer, which goes on by one
abbrev pub pushed_byte : Cells → ℕ → Cells
pushed_byte ring value = record { bytes = slice_set ring.bytes ring.pointer value; pointer = (ring.pointer + 1) % 256 }

-- a short pushed: its high byte, then its low byte
abbrev pub pushed_short : Cells → ℕ → Cells
pushed_short ring value = pushed_byte (pushed_byte ring (value / 256)) (value % 256)
