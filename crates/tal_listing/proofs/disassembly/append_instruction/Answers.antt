use Rattle.std.proofs.lemmas.Result.{IfOk-equal}
use Rattle.tal_words.specs.Opcodes.{name_of_op}
use Rattle.uxn_io_traits.specs.NumberText.{hex_of_short}
use Rattle.tal_listing.proofs.DisassemblyLemmas.{line_text}
use Rattle.tal_listing.proofs.disassembly.append_instruction.Goals as goal

pub returns : goal.returns
returns c =
    IfOk-equal c.append_pieces.result _ _ _ c.append_pieces.ensures
    (rw (c.in_ok-append_immediate.ensures, c.in_ok-extend_from_slice.ensures.items, c.deref.ensures.0, c.op_name.ensures, c.hex_short.ensures)
    (line_text c.args.text.now.items (name_of_op c.args.opcode) c.args.immediate.now (hex_of_short c.args.address)))
