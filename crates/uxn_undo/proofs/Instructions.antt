-- An instruction changes bank 0 only within the bytes that are kept for it.
use Rattle.uxn_undo.proofs.Common.{◌≡◌, ℕ, ◌+◌, ◌-◌, ◌%◌, ◌==◌, ◌<◌, true, false, cond, List, Option, None, Some, refl, inl, inr, arith, cases_Bool}
use Rattle.uxn_undo.proofs.Common.{get_or-map-range_with_len, length-map-range_with_len, Core, Cells, byte_below, Width, Byte, Short, mode_of}
use Rattle.uxn_undo.proofs.Common.{OpEffect, ruled, sides_of, core_of, Span, span_in_bank, IsMachine, HoldsBytes}
use Rattle.std.proofs.Common.{subst, rules}
use Rattle.std.specs.Prelude.{nat_lt}
use Rattle.varvara_bus.specs.History.{stored}
use Rattle.varvara_bus.specs.State.{DeviceState}
use Rattle.varvara_bus.specs.Touched.{touched_by_word}
use Rattle.varvara_bus.specs.MemoryLaws.{IsPageOf, after_word, word-within, word-stacks}
use Rattle.varvara_bus.specs.Model.{no_changes, varvara, instruction_effect}
use Rattle.uxn_opcodes.specs.declared.operation.Mode.{Mode as OpMode}
use Rattle.uxn_opcodes.specs.declared.operation.Op.{Op}
use Rattle.uxn_opcodes.specs.declared.operation.Op.TheVariants.{Store, Dei, Deo}
use Rattle.uxn_opcodes.specs.declared.operation.StoreOp.TheVariants.{Stz, Str, Sta}
use Rattle.uxn_opcodes.specs.Words.{size_of, word_below, relative, memory_with_word}
use Rattle.uxn_opcodes.specs.Table.{op_of}
use Rattle.uxn_opcodes.specs.Rule.{op_effect_of, row_begun, begun_by, begun, opcode_at, past_opcode}
use Rattle.uxn_opcodes.specs.Model.{word_read, access_done, after_instruction}
use Rattle.uxn_undo.specs.Spans.{span_in_page, no_span}
use Rattle.uxn_undo.specs.Changes.{span_of_range, span_of_op, instruction_span}
use Rattle.uxn_undo.specs.Row.{InstructionLaw, page_of}
use Rattle.uxn_undo.proofs.Machines.{immediate-machine, row-memory, row-machine, side-memory, side-holds, byte-small, side-pushed}
use Rattle.uxn_undo.proofs.Misses.{Changes, same-memory, one-set, range-changes}

-- the bytes stored in the ports
page-is : (devices : DeviceState) → IsPageOf (page_of devices) devices.history
page-is devices = record {
  size = length-map-range_with_len (stored devices.history) 0 256;
  holds = λ port small. get_or-map-range_with_len (stored devices.history) 0 256 port port 0 small (omega arith);
}

-- what an instruction leaves
record Leaves (span : Span) (memory : List ℕ) (after : Core) : Type 0 where
  changes : Changes span memory after.memory
  machine : IsMachine after

-- a word written to a port
write-leaves : (devices : DeviceState) (core : Core) (width : Width) (port value : ℕ) → IsMachine core → port < 256
    → Leaves (span_of_range (touched_by_word core.memory (page_of devices) width port value)) core.memory (after_word devices core width port value)
write-leaves devices core width port value is small =
    let within = word-within devices core (page_of devices) width port value small (page-is devices) is.memory in
    let stacks = word-stacks devices core width port value in
    let whole = is.memory in
    record {
      changes = range-changes (touched_by_word core.memory (page_of devices) width port value) core.memory _ within;
      machine = record {
        memory = omega (arith, within.size);
        working = λ place. rw stacks.0 (is.working place);
        returns = λ place. rw stacks.1 (is.returns place);
      };
    }

-- a row that leaves memory alone, and one that stores
store-leaves : (mode : OpMode) (core : Core) (op_effect : OpEffect) (span : Span) → IsMachine core
    → Changes span (sides_of mode.returns core).memory op_effect.memory
    → Leaves span (sides_of mode.returns core).memory (core_of mode.returns (ruled mode (sides_of mode.returns core) op_effect))
store-leaves = search (arith, rules, row-machine, row-memory, side-memory)

plain-leaves : (mode : OpMode) (core : Core) (op_effect : OpEffect) (span : Span) → IsMachine core → op_effect.memory ≡ (sides_of mode.returns core).memory
    → Leaves span (sides_of mode.returns core).memory (core_of mode.returns (ruled mode (sides_of mode.returns core) op_effect))
plain-leaves mode core op_effect span is same =
    store-leaves mode core op_effect span is (rw same (same-memory span (sides_of mode.returns core).memory))

zero-changes : (width : Width) (memory : List ℕ) (place value : ℕ) → place < 256
    → Changes (span_in_page place (size_of width)) memory (memory_with_word 256 width memory place value)
unfolding memory_with_word
zero-changes Byte memory place value small = search (arith, rules, one-set, same-memory)
zero-changes Short memory place value small = search (arith, rules, one-set, same-memory)

word-changes : (width : Width) (memory : List ℕ) (place value : ℕ) → place < 65536
    → Changes (span_in_bank place (size_of width)) memory (memory_with_word 65536 width memory place value)
unfolding memory_with_word
word-changes Byte memory place value small = search (arith, rules, one-set, same-memory)
word-changes Short memory place value small = search (arith, rules, one-set, same-memory)

relative-small : (at offset : ℕ) → relative at offset < 65536
unfolding relative
relative-small at offset =
    elim (nat_lt offset 128) as (λ b. cond b ((at + offset) % 65536) ((at + offset + 65536 - 256) % 65536) < 65536) [ true ↦ omega arith | false ↦ omega arith ]

short-small : (ring : Cells) (depth : ℕ) → HoldsBytes ring → word_below ring Short depth < 65536
unfolding word_below
short-small ring depth holds =
    let high : byte_below ring (depth + 1) < 256 = holds _ in
    let low : byte_below ring depth < 256 = holds _ in
    omega arith

abbrev RowLeaves : Op → OpMode → Core → DeviceState → Type 0
RowLeaves op mode core devices =
    Leaves (span_of_op (Some op) mode.width (sides_of mode.returns core).memory (sides_of mode.returns core).at (sides_of mode.returns core).this (page_of devices))
    (sides_of mode.returns core).memory
    (access_done varvara (row_begun op mode core).access (row_begun op mode core).core (no_changes devices)).core

row-leaves : (op : Op) (mode : OpMode) (core : Core) (devices : DeviceState) → IsMachine core → RowLeaves op mode core devices
unfolding op_effect_of
row-leaves (Store Stz) mode core devices is = search (arith, rules, byte-small, side-holds, store-leaves, zero-changes)
row-leaves (Store Str) mode core devices is = search (arith, rules, relative-small, store-leaves, word-changes)
row-leaves (Store Sta) mode core devices is = search (arith, rules, short-small, side-holds, store-leaves, word-changes)
row-leaves Dei mode core devices is =
    let s = sides_of mode.returns core in
    let begun = plain-leaves mode core (op_effect_of Dei mode s) no_span is refl in
    let after = core_of mode.returns (ruled mode s (op_effect_of Dei mode s)) in
    let read = word_read varvara mode.width (no_changes devices) after (word_below s.this Byte 0) in
    let done = side-pushed mode.returns after mode.width read (sides_of mode.returns after).at begun.machine in
    record { changes = rw done.memory begun.changes; machine = done.machine }
row-leaves Deo mode core devices is =
    let s = sides_of mode.returns core in
    let begun = plain-leaves mode core (op_effect_of Deo mode s) no_span is refl in
    let after = core_of mode.returns (ruled mode s (op_effect_of Deo mode s)) in
    let port = word_below s.this Byte 0 in
    let value = word_below s.this mode.width 1 in
    let P : List ℕ → Type 0 = λ memory.
    Leaves (span_of_range (touched_by_word memory (page_of devices) mode.width port value)) memory (after_word devices after mode.width port value) in
    subst P (row-memory mode.returns mode core (op_effect_of Deo mode s))
    (write-leaves devices after mode.width port value begun.machine (byte-small s.this 0 (side-holds mode.returns core is)))
row-leaves op mode core devices is = plain-leaves mode core (op_effect_of op mode (sides_of mode.returns core)) no_span is refl

any-leaves : (op : Option Op) (code : ℕ) (core : Core) (devices : DeviceState) → IsMachine core
    → Leaves (span_of_op op (mode_of code).width (sides_of (mode_of code).returns core).memory (sides_of (mode_of code).returns core).at
    (sides_of (mode_of code).returns core).this (page_of devices)) core.memory
    (access_done varvara (begun_by op code core).access (begun_by op code core).core (no_changes devices)).core
any-leaves None code core devices is = search (arith, rules, immediate-machine, same-memory)
any-leaves (Some op) code core devices is =
    let memory = side-memory (mode_of code).returns core in
    let row = row-leaves op (mode_of code) core devices is in
    let P : List ℕ → Type 0 = λ m.
    Leaves (span_of_op (Some op) (mode_of code).width (sides_of (mode_of code).returns core).memory (sides_of (mode_of code).returns core).at
    (sides_of (mode_of code).returns core).this (page_of devices)) m
    (access_done varvara (begun_by (Some op) code core).access (begun_by (Some op) code core).core (no_changes devices)).core in
    subst P memory row

instruction-leaves : (devices : DeviceState) (core : Core) → IsMachine core
    → Leaves (instruction_span core (page_of devices)) core.memory (instruction_effect devices core).core
unfolding instruction_effect after_instruction begun instruction_span
instruction-leaves devices core is =
    let past : IsMachine (past_opcode core) = record { memory = is.memory; working = is.working; returns = is.returns } in
    elim (cases_Bool (opcode_at core == 0)) [
      | inl broke ↦ rw broke (record { changes = same-memory _ core.memory; machine = past })
      | inr runs ↦ rw runs (any-leaves (op_of (opcode_at core)) (opcode_at core) (past_opcode core) devices past)
    ]

pub instruction_law : InstructionLaw
instruction_law = record {
  within = λ devices core is. (instruction-leaves devices core is).changes.within;
  machine = λ devices core is. (instruction-leaves devices core is).machine;
}
