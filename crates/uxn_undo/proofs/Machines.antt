-- An instruction up to its port access leaves a machine.
use Rattle.uxn_undo.proofs.Common.{◌≡◌, ℕ, zero, suc, ◌+◌, ◌%◌, ◌==◌, ◌<◌, ◌≤◌, Bool, true, false, cond, List, [], ◌∷◌, length, refl, arith}
use Rattle.uxn_undo.proofs.Common.{slice_index, slice_set, Cells, byte_below, Core, Width, Byte, Short, sides_of, core_of, OpEffect, ruled, mode_of}
use Rattle.uxn_undo.proofs.Common.{HoldsBytes, IsMachine}
use Rattle.std.proofs.Common.{rules}
use Rattle.uxn_stacks.specs.Cells.{lowered}
use Rattle.uxn_opcodes.specs.declared.operation.Mode.{Mode}
use Rattle.uxn_opcodes.specs.Words.{pushed, pushed_all, dropped, word_below}
use Rattle.uxn_opcodes.specs.Rule.{immediate, jumped, jumped_if, called, literal}
use Rattle.uxn_opcodes.specs.Table.{Pushes}

-- a byte that is set
set-holds : (bytes : List ℕ) (place value : ℕ) → value < 256 → ((k : ℕ) → slice_index bytes k < 256)
    → (k : ℕ) → slice_index (slice_set bytes place value) k < 256
set-holds [] place value small holds k = holds k
set-holds (x ∷ xs) zero value small holds zero = small
set-holds (x ∷ xs) zero value small holds (suc k) = holds (suc k)
set-holds (x ∷ xs) (suc place) value small holds zero = holds zero
set-holds (x ∷ xs) (suc place) value small holds (suc k) = set-holds xs place value small (λ j. holds (suc j)) k

pub pushed-holds : (ring : Cells) (width : Width) (value : ℕ) → HoldsBytes ring → HoldsBytes (pushed ring width value)
unfolding pushed
pushed-holds ring Byte value holds = set-holds ring.bytes ring.pointer (value % 256) (omega arith) holds
pushed-holds ring Short value holds = search (arith, rules, set-holds)

all-pushed-holds : (ring : Cells) (words : Pushes) → HoldsBytes ring → HoldsBytes (pushed_all ring words)
all-pushed-holds ring [] holds = holds
all-pushed-holds ring (word ∷ words) holds = all-pushed-holds (pushed ring word.0 word.1) words (pushed-holds ring word.0 word.1 holds)

dropped-holds : (keep : Bool) (ring : Cells) (count : ℕ) → HoldsBytes ring → HoldsBytes (dropped keep ring count)
unfolding dropped
dropped-holds true ring count holds = holds
dropped-holds false ring count holds = holds

-- the words on a stack of bytes
pub byte-small : (ring : Cells) (depth : ℕ) → HoldsBytes ring → word_below ring Byte depth < 256
unfolding word_below
byte-small ring depth holds = holds _

-- a row
pub row-memory : (returns : Bool) (mode : Mode) (core : Core) (op_effect : OpEffect)
    → (core_of returns (ruled mode (sides_of returns core) op_effect)).memory ≡ op_effect.memory
row-memory true mode core op_effect = refl
row-memory false mode core op_effect = refl

pub row-machine : (returns : Bool) (mode : Mode) (core : Core) (op_effect : OpEffect) → IsMachine core → 65536 ≤ length op_effect.memory
    → IsMachine (core_of returns (ruled mode (sides_of returns core) op_effect))
row-machine true mode core op_effect is size = search (arith, rules, all-pushed-holds, dropped-holds)
row-machine false mode core op_effect is size = search (arith, rules, all-pushed-holds, dropped-holds)

pub side-memory : (returns : Bool) (core : Core) → (sides_of returns core).memory ≡ core.memory
side-memory true core = refl
side-memory false core = refl

pub side-holds : (returns : Bool) (core : Core) → IsMachine core → HoldsBytes (sides_of returns core).this
side-holds true core is = is.returns
side-holds false core is = is.working

-- a machine with the same memory
pub record SameMemory (before after : Core) : Type 0 where
  pub memory : after.memory ≡ before.memory
  pub machine : IsMachine after

-- what was read is pushed
pub side-pushed : (returns : Bool) (core : Core) (width : Width) (value at : ℕ) → IsMachine core
    → SameMemory core (core_of returns (record (sides_of returns core) { this = pushed (sides_of returns core).this width value; at = at }))
side-pushed true core width value at is = let holds = pushed-holds core.returns width value is.returns in search rules
side-pushed false core width value at is = let holds = pushed-holds core.working width value is.working in search rules

-- the instructions with an immediate, and BRK
by_code : (brk first second third : Bool) (code : ℕ) (core : Core) → IsMachine core
    → SameMemory core (cond brk core
    (cond first (jumped_if core) (cond second (jumped core) (cond third (called core) (literal (mode_of code) core)))))
by_code true first second third code core is = record { memory = refl; machine = is }
by_code false true second third code core is =
    elim (byte_below core.working 0 == 0) as (λ b. SameMemory core (cond b (record core { working = lowered core.working 1; at = (core.at + 2) % 65536 })
    (record (jumped core) { working = lowered core.working 1 }))) [ true ↦ search rules | false ↦ search rules ]
by_code false false true third code core is = search rules
by_code false false false true code core is = search (arith, rules, pushed-holds)
by_code false false false false code core is = side-pushed (mode_of code).returns core (mode_of code).width _ _ is

pub immediate-machine : (code : ℕ) (core : Core) → IsMachine core → SameMemory core (immediate code core)
immediate-machine code core is = by_code (code == 0x00) (code == 0x20) (code == 0x40) (code == 0x60) code core is
