-- The instruction table (Uxntal opcode reference), a line for each operation: the widths that it takes, the
-- deepest operand first, and what it makes of these operands. `w` is the width that the mode chooses. A result
-- is cut to the width that it is pushed at.
use Rattle.std.specs.Prelude.{ℕ, ◌+◌, ◌-◌, ◌*◌, ◌/◌, ◌%◌, ◌^◌, ◌==◌, Bool, not, nat_lt}
use Rattle.std.specs.Prelude.{if◌then◌else◌, List, [], ◌∷◌, map, codes, Option, Some, None, slice_index_or, bit_and, bit_or, bit_xor}
use Rattle.uxn_stacks.specs.Cells.{Cells}
use Rattle.uxn_opcodes.specs.declared.operation.Width.{Width}
use Rattle.uxn_opcodes.specs.declared.operation.Width.TheVariants.{Byte, Short}
use Rattle.uxn_opcodes.specs.declared.operation.Mode.{Mode}
use Rattle.uxn_opcodes.specs.declared.operation.Op.{Op}
use Rattle.uxn_opcodes.specs.declared.operation.Op.TheVariants.{Inc, Sft, Arithmetic, Compare, Stack, Sth, Jump, Load, Store, Dei, Deo}
use Rattle.uxn_opcodes.specs.declared.operation.ArithmeticOp.{ArithmeticOp}
use Rattle.uxn_opcodes.specs.declared.operation.ArithmeticOp.TheVariants.{Add, Sub, Mul, Div, And, Ora, Eor}
use Rattle.uxn_opcodes.specs.declared.operation.CompareOp.{CompareOp}
use Rattle.uxn_opcodes.specs.declared.operation.CompareOp.TheVariants.{Equ, Neq, Gth, Lth}
use Rattle.uxn_opcodes.specs.declared.operation.StackOp.{StackOp}
use Rattle.uxn_opcodes.specs.declared.operation.StackOp.TheVariants.{Pop, Nip, Swp, Rot, Dup, Ovr}
use Rattle.uxn_opcodes.specs.declared.operation.JumpOp.{JumpOp}
use Rattle.uxn_opcodes.specs.declared.operation.JumpOp.TheVariants.{Jmp, Jcn, Jsr}
use Rattle.uxn_opcodes.specs.declared.operation.LoadOp.{LoadOp}
use Rattle.uxn_opcodes.specs.declared.operation.LoadOp.TheVariants.{Ldz, Ldr, Lda}
use Rattle.uxn_opcodes.specs.declared.operation.StoreOp.{StoreOp}
use Rattle.uxn_opcodes.specs.declared.operation.StoreOp.TheVariants.{Stz, Str, Sta}
use Rattle.uxn_opcodes.specs.Words.{size_of, word_below, pushed_all, dropped, relative, target}
use Rattle.uxn_opcodes.specs.Words.{word_loaded, memory_with_word}

-- the operations with their letters, in the order of their codes 00 to 1f; 00 has letters alone
abbrev pub operation_rows : List (List ℕ × Option Op)
operation_rows =
    (codes "LIT", None) ∷ (codes "INC", Some Inc) ∷ (codes "POP", Some (Stack Pop)) ∷ (codes "NIP", Some (Stack Nip))
    ∷ (codes "SWP", Some (Stack Swp)) ∷ (codes "ROT", Some (Stack Rot)) ∷ (codes "DUP", Some (Stack Dup)) ∷ (codes "OVR", Some (Stack Ovr))
    ∷ (codes "EQU", Some (Compare Equ)) ∷ (codes "NEQ", Some (Compare Neq))
    ∷ (codes "GTH", Some (Compare Gth)) ∷ (codes "LTH", Some (Compare Lth))
    ∷ (codes "JMP", Some (Jump Jmp)) ∷ (codes "JCN", Some (Jump Jcn)) ∷ (codes "JSR", Some (Jump Jsr)) ∷ (codes "STH", Some Sth)
    ∷ (codes "LDZ", Some (Load Ldz)) ∷ (codes "STZ", Some (Store Stz)) ∷ (codes "LDR", Some (Load Ldr)) ∷ (codes "STR", Some (Store Str))
    ∷ (codes "LDA", Some (Load Lda)) ∷ (codes "STA", Some (Store Sta)) ∷ (codes "DEI", Some Dei) ∷ (codes "DEO", Some Deo)
    ∷ (codes "ADD", Some (Arithmetic Add)) ∷ (codes "SUB", Some (Arithmetic Sub))
    ∷ (codes "MUL", Some (Arithmetic Mul)) ∷ (codes "DIV", Some (Arithmetic Div))
    ∷ (codes "AND", Some (Arithmetic And)) ∷ (codes "ORA", Some (Arithmetic Ora))
    ∷ (codes "EOR", Some (Arithmetic Eor)) ∷ (codes "SFT", Some Sft) ∷ []

abbrev pub operations : List (Option Op)
operations = map (λ row. row.1) operation_rows

-- the operation that the low five bits of an instruction choose
unfoldable pub op_of : ℕ → Option Op
op_of code = slice_index_or operations (code % 32) None

-- the mode of an instruction: 20 is short mode, 40 is return mode, 80 is keep mode
unfoldable pub mode_of : ℕ → Mode
mode_of code = record {
  width = if bit_and code 0x20 == 0 then Byte else Short;
  returns = not (bit_and code 0x40 == 0);
  keep = not (bit_and code 0x80 == 0);
}

-- a row: the widths of its operands, the deepest first, and what it makes of them
pub data Row (A : Type 0) : Type 0 where
  one : Width → (ℕ → A) → Row A
  two : Width → Width → (ℕ → ℕ → A) → Row A
  three : Width → Width → Width → (ℕ → ℕ → ℕ → A) → Row A

-- how many bytes a row takes
abbrev pub taken : {A : Type 0} → Row A → ℕ
taken (one a make) = size_of a
taken (two a b make) = size_of a + size_of b
taken (three a b c make) = size_of a + size_of b + size_of c

-- what a row makes of the operands below the pointer of a stack
abbrev pub results_of_row : {A : Type 0} → Row A → Cells → A
results_of_row (one a make) ring = make (word_below ring a 0)
results_of_row (two a b make) ring = make (word_below ring a (size_of b)) (word_below ring b 0)
results_of_row (three a b c make) ring = make (word_below ring a (size_of b + size_of c)) (word_below ring b (size_of c)) (word_below ring c 0)

-- the words that a row pushes, in order
abbrev pub Pushes : Type 0
Pushes = List (Width × ℕ)

-- the stack after a row whose results are pushed at the pointer as it stands once the operands were taken
abbrev pub results : Mode → Row Pushes → Cells → Cells
results mode row ring = pushed_all (dropped mode.keep ring (taken row)) (results_of_row row ring)

-- 01: the word and one more
abbrev pub increment_row : Width → Row Pushes
increment_row w = one w (λ a. (w, a + 1) ∷ [])

-- 18 to 1e: arithmetic modulo 256 or 65536, by the width
abbrev pub arithmetic_row : ArithmeticOp → Width → Row Pushes
arithmetic_row Add w = two w w (λ a b. (w, a + b) ∷ [])
arithmetic_row Sub w = two w w (λ a b. (w, a + 65536 - b) ∷ [])
arithmetic_row Mul w = two w w (λ a b. (w, a * b) ∷ [])
arithmetic_row Div w = two w w (λ a b. (w, if b == 0 then 0 else a / b) ∷ [])
arithmetic_row And w = two w w (λ a b. (w, bit_and a b) ∷ [])
arithmetic_row Ora w = two w w (λ a b. (w, bit_or a b) ∷ [])
arithmetic_row Eor w = two w w (λ a b. (w, bit_xor a b) ∷ [])

-- 1f: to the right by the low four bits of a byte, then to the left by its high four bits
abbrev pub shift_row : Width → Row Pushes
shift_row w = two w Byte (λ a s. (w, a / 2 ^ (s % 16) * 2 ^ (s / 16)) ∷ [])

-- 02 to 07: the order of the words on this stack
abbrev pub stack_row : StackOp → Width → Row Pushes
stack_row Pop w = one w (λ a. [])
stack_row Nip w = two w w (λ a b. (w, b) ∷ [])
stack_row Swp w = two w w (λ a b. (w, b) ∷ (w, a) ∷ [])
stack_row Rot w = three w w w (λ a b c. (w, b) ∷ (w, c) ∷ (w, a) ∷ [])
stack_row Dup w = one w (λ a. (w, a) ∷ (w, a) ∷ [])
stack_row Ovr w = two w w (λ a b. (w, a) ∷ (w, b) ∷ (w, a) ∷ [])

-- 01 where a test holds, else 00, as one byte
abbrev pub flag : Bool → Pushes
flag holds = (Byte, if holds then 1 else 0) ∷ []

-- 08 to 0b: comparisons of unsigned words
abbrev pub compare_row : CompareOp → Width → Row Pushes
compare_row Equ w = two w w (λ a b. flag (a == b))
compare_row Neq w = two w w (λ a b. flag (not (a == b)))
compare_row Gth w = two w w (λ a b. flag (nat_lt b a))
compare_row Lth w = two w w (λ a b. flag (nat_lt a b))

-- where a jump leads, and what it pushes on the other stack
pub record JumpTarget : Type 0 where
  pub next : ℕ
  pub passes : Pushes

-- 0c to 0e: `at` is the address after the opcode
abbrev pub jump_row : JumpOp → Width → ℕ → Row JumpTarget
jump_row Jmp w at = one w (λ j. record { next = target w at j; passes = [] })
jump_row Jcn w at = two Byte w (λ t j. record { next = if t == 0 then at else target w at j; passes = [] })
jump_row Jsr w at = one w (λ j. record { next = target w at j; passes = (Short, at) ∷ [] })

-- 0f: the word goes to the other stack
abbrev pub stash_row : Width → Row Pushes
stash_row w = one w (λ a. (w, a) ∷ [])

-- 10, 12 and 14: the word of memory at a place of the zero page, at a signed distance, or at an address
abbrev pub load_row : LoadOp → Width → List ℕ → ℕ → Row Pushes
load_row Ldz w memory at = one Byte (λ z. (w, word_loaded 256 w memory z) ∷ [])
load_row Ldr w memory at = one Byte (λ o. (w, word_loaded 65536 w memory (relative at o)) ∷ [])
load_row Lda w memory at = one Short (λ a. (w, word_loaded 65536 w memory a) ∷ [])

-- 11, 13 and 15: memory after the word is stored there
abbrev pub store_row : StoreOp → Width → List ℕ → ℕ → Row (List ℕ)
store_row Stz w memory at = two w Byte (λ v z. memory_with_word 256 w memory z v)
store_row Str w memory at = two w Byte (λ v o. memory_with_word 65536 w memory (relative at o) v)
store_row Sta w memory at = two w Short (λ v a. memory_with_word 65536 w memory a v)

-- 16: the port that is read
abbrev pub read_row : Row ℕ
read_row = one Byte (λ p. p)

-- 17: the port that is written, and the word
abbrev pub write_row : Width → Row (ℕ × ℕ)
write_row w = two w Byte (λ v p. (p, v))
