-- One rule for short, return and keep mode in four moments, and the instructions with an immediate (Uxntal opcode reference).
use Rattle.std.specs.Prelude.{◌≡◌, ◌≢◌, ℕ, ◌+◌, ◌%◌, ◌==◌, Bool, true, false, if◌then◌else◌, List, [], Option, Some}
use Rattle.std.specs.Prelude.{None, slice_index}
use Rattle.uxn_memory.specs.Bytes.{memory_size, zeros, short_at, with_bytes}
use Rattle.uxn_stacks.specs.Cells.{Cells, new_ring, pointed, byte_below, lowered}
use Rattle.uxn_opcodes.specs.declared.Core.{Core}
use Rattle.uxn_opcodes.specs.declared.Registers.{Registers}
use Rattle.uxn_opcodes.specs.declared.operation.Width.TheVariants.{Short}
use Rattle.uxn_opcodes.specs.declared.operation.Mode.{Mode}
use Rattle.uxn_opcodes.specs.declared.operation.Op.{Op}
use Rattle.uxn_opcodes.specs.declared.operation.Op.TheVariants.{Inc, Sft, Arithmetic, Compare, Stack, Sth, Jump, Load, Store, Dei, Deo}
use Rattle.uxn_opcodes.specs.declared.rows.Access.{Access}
use Rattle.uxn_opcodes.specs.declared.rows.Access.TheVariants.{Nothing, Read, Write}
use Rattle.uxn_opcodes.specs.Words.{size_of, pushed, pushed_all, dropped, word_loaded}
use Rattle.uxn_opcodes.specs.Table.{op_of, mode_of, Row, taken, results_of_row, Pushes}
use Rattle.uxn_opcodes.specs.Table.{increment_row, shift_row, arithmetic_row, stack_row, compare_row}
use Rattle.uxn_opcodes.specs.Table.{jump_row, stash_row, load_row, store_row, read_row, write_row}

-- the machine at the start: memory 0 but for the program from 0100 of bank 0 on, across the banks; new stacks, at 0100
unfoldable pub new_core : List ℕ → Core
new_core rom = record { memory = with_bytes (zeros memory_size) 256 rom; working = new_ring; returns = new_ring; at = 256 }

-- memory, the address after the opcode, this stack and the other stack
pub record Sides : Type 0 where
  pub memory : List ℕ
  pub at : ℕ
  pub this : Cells
  pub other : Cells

abbrev pub found : List ℕ → ℕ → Cells → Cells → Sides
found memory at this other = record { memory = memory; at = at; this = this; other = other }

-- return mode swaps the roles of the two stacks
abbrev pub sides_of : Bool → Core → Sides
sides_of false core = record { memory = core.memory; at = core.at; this = core.working; other = core.returns }
sides_of true core = record { memory = core.memory; at = core.at; this = core.returns; other = core.working }

abbrev pub core_of : Bool → Sides → Core
core_of false sides = record { memory = sides.memory; working = sides.this; returns = sides.other; at = sides.at }
core_of true sides = record { memory = sides.memory; working = sides.other; returns = sides.this; at = sides.at }

-- what a row does: the bytes that it takes, what becomes of memory and of the next address, what is pushed on
-- the other stack and on this one, and which ports are still to be read or written
pub record OpEffect : Type 0 where
  pub count : ℕ
  pub memory : List ℕ
  pub next : ℕ
  pub passes : Pushes
  pub results : Pushes
  pub access : Access

-- a row that only takes its operands
abbrev pub takes : {A : Type 0} → Row A → Sides → OpEffect
takes row sides = record { count = taken row; memory = sides.memory; next = sides.at; passes = []; results = []; access = Nothing }

-- each kind of row: its operands are those of this stack as the instruction finds it
unfoldable pub op_effect_of : Op → Mode → Sides → OpEffect
op_effect_of Inc mode s = let row = increment_row mode.width in record (takes row s) { results = results_of_row row s.this }
op_effect_of Sft mode s = let row = shift_row mode.width in record (takes row s) { results = results_of_row row s.this }
op_effect_of (Arithmetic op) mode s = let row = arithmetic_row op mode.width in record (takes row s) { results = results_of_row row s.this }
op_effect_of (Stack op) mode s = let row = stack_row op mode.width in record (takes row s) { results = results_of_row row s.this }
op_effect_of (Compare op) mode s = let row = compare_row op mode.width in record (takes row s) { results = results_of_row row s.this }
op_effect_of (Jump op) mode s = let row = jump_row op mode.width s.at in
    record (takes row s) { next = (results_of_row row s.this).next; passes = (results_of_row row s.this).passes }
op_effect_of Sth mode s = let row = stash_row mode.width in record (takes row s) { passes = results_of_row row s.this }
op_effect_of (Load op) mode s = let row = load_row op mode.width s.memory s.at in record (takes row s) { results = results_of_row row s.this }
op_effect_of (Store op) mode s = let row = store_row op mode.width s.memory s.at in record (takes row s) { memory = results_of_row row s.this }
op_effect_of Dei mode s = record (takes read_row s) { access = Read (results_of_row read_row s.this) mode }
op_effect_of Deo mode s = let row = write_row mode.width in
    record (takes row s) { access = Write (results_of_row row s.this).0 mode.width (results_of_row row s.this).1 }

-- the machine where nothing but a port access is left of an instruction, and this access
pub record Begun : Type 0 where
  pub core : Core
  pub access : Access

abbrev pub begun_as : Core → Access → Begun
begun_as core access = record { core = core; access = access }

-- the rule: the pointer of this stack is lowered past the operands unless keep mode is set; memory, the next
-- address and the other stack change; and the results are pushed on this stack at the pointer as it now stands
abbrev pub ruled : Mode → Sides → OpEffect → Sides
ruled mode s op_effect = record {
  memory = op_effect.memory;
  at = op_effect.next;
  this = pushed_all (dropped mode.keep s.this op_effect.count) op_effect.results;
  other = pushed_all s.other op_effect.passes;
}

-- the opcode, and the machine past it
abbrev pub opcode_at : Core → ℕ
opcode_at core = slice_index core.memory core.at

abbrev pub past_opcode : Core → Core
past_opcode core = record core { at = (core.at + 1) % 65536 }

-- the short that follows, and the address after it
abbrev pub immediate_of : Core → ℕ
immediate_of core = short_at 65536 core.memory core.at

-- the registers of a machine, and the machine with other ones
abbrev pub registers_of : Core → Registers
registers_of core = record { at = core.at; working = core.working.pointer; returns = core.returns.pointer }

abbrev pub with_registers : Core → Registers → Core
with_registers core registers = record core {
  at = registers.at;
  working = pointed core.working registers.working;
  returns = pointed core.returns registers.returns;
}

-- JMI: on from the address after the immediate by the immediate
abbrev pub jumped : Core → Core
jumped core = record core { at = (core.at + 2 + immediate_of core) % 65536 }

-- JCI: takes one byte of the working stack, and jumps where it is not 0
abbrev pub jumped_if : Core → Core
jumped_if core = if byte_below core.working 0 == 0
    then record core { working = lowered core.working 1; at = (core.at + 2) % 65536 }
    else record (jumped core) { working = lowered core.working 1 }

-- JSI: pushes the address after the immediate on the return stack, and jumps
abbrev pub called : Core → Core
called core = record (jumped core) { returns = pushed core.returns Short ((core.at + 2) % 65536) }

-- LIT: pushes the word that follows on this stack, and goes on after it
abbrev pub literal : Mode → Core → Core
literal mode core = let s = sides_of mode.returns core in core_of mode.returns (record s {
  this = pushed s.this mode.width (word_loaded 65536 mode.width s.memory s.at);
  at = (s.at + size_of mode.width) % 65536;
})

-- the instructions whose low five bits are 0: 00 is BRK, 20 is JCI, 40 is JMI, 60 is JSI, and 80, a0, c0, e0 are LIT
abbrev pub immediate : ℕ → Core → Core
immediate code core =
    if code == 0x00 then core
    else (if code == 0x20 then jumped_if core
    else (if code == 0x40 then jumped core else (if code == 0x60 then called core else literal (mode_of code) core)))

-- a row's instruction, from the machine past the opcode, up to its port access
abbrev pub row_begun : Op → Mode → Core → Begun
row_begun op mode core = let s = sides_of mode.returns core in let op_effect = op_effect_of op mode s in
    begun_as (core_of mode.returns (ruled mode s op_effect)) op_effect.access

abbrev pub begun_by : Option Op → ℕ → Core → Begun
begun_by None code core = begun_as (immediate code core) Nothing
begun_by (Some op) code core = row_begun op (mode_of code) core

-- the instruction of a code up to its port access, and the one that a machine is at
abbrev pub begun_with : ℕ → Core → Begun
begun_with code core = begun_by (op_of code) code (past_opcode core)

unfoldable pub begun : Core → Begun
begun core = begun_with (opcode_at core) core
