-- Which bytes of bank 0 the coming instruction may change (Uxntal opcode reference): a line for each operation that stores, and one
-- for what the write of a port touches.
use Rattle.std.specs.Prelude.{ℕ, ◌==◌, if◌then◌else◌, List, Option, Some}
use Rattle.uxn_stacks.specs.Cells.{Cells}
use Rattle.uxn_opcodes.specs.declared.Core.{Core}
use Rattle.uxn_opcodes.specs.declared.operation.Width.{Width}
use Rattle.uxn_opcodes.specs.declared.operation.Width.TheVariants.{Byte, Short}
use Rattle.uxn_opcodes.specs.declared.operation.Op.{Op}
use Rattle.uxn_opcodes.specs.declared.operation.Op.TheVariants.{Store, Deo}
use Rattle.uxn_opcodes.specs.declared.operation.StoreOp.TheVariants.{Stz, Str, Sta}
use Rattle.uxn_opcodes.specs.Words.{size_of, word_below, relative}
use Rattle.uxn_opcodes.specs.Table.{op_of, mode_of}
use Rattle.uxn_opcodes.specs.Rule.{sides_of, opcode_at, past_opcode}
use Rattle.system_port.specs.declared.expansions.BankRange.{BankRange}
use Rattle.varvara_bus.specs.Touched.{touched_by_word}
use Rattle.uxn_undo.specs.declared.span.Span.{Span}
use Rattle.uxn_undo.specs.Spans.{span_in_page, span_in_bank, no_span}

-- of a range of memory the part in bank 0
abbrev pub span_of_range : BankRange → Span
span_of_range range = if range.bank == 0 then span_in_bank range.first range.count else no_span

-- the operations that store, with what they take from this stack; `at` is the address after the opcode
abbrev pub span_of_op : Option Op → Width → List ℕ → ℕ → Cells → List ℕ → Span
span_of_op (Some (Store Stz)) width memory at ring page = span_in_page (word_below ring Byte 0) (size_of width)
span_of_op (Some (Store Str)) width memory at ring page = span_in_bank (relative at (word_below ring Byte 0)) (size_of width)
span_of_op (Some (Store Sta)) width memory at ring page = span_in_bank (word_below ring Short 0) (size_of width)
span_of_op (Some Deo) width memory at ring page =
    span_of_range (touched_by_word memory page width (word_below ring Byte 0) (word_below ring width 1))
span_of_op _ width memory at ring page = no_span

-- what the instruction at `at` may change, with the bytes that are stored in the ports
unfoldable pub instruction_span : Core → List ℕ → Span
instruction_span core page =
    let mode = mode_of (opcode_at core) in
    let sides = sides_of mode.returns (past_opcode core) in
    span_of_op (op_of (opcode_at core)) mode.width sides.memory sides.at sides.this page
