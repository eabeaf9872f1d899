use Rattle.std.proofs.Common.{◌+◌, length, ap, arith, rules}
use Rattle.tal_listing.proofs.DisassemblyLemmas.{disassembled_start, disassembled_more, disassembled_end}
use Rattle.tal_listing.proofs.disassembly.disassemble_chained.Goals as goal

pub loop-offset-init : goal.loop-offset-init
loop-offset-init c = disassembled_start c.args.rom.now c.args.labels.now c.in_ok-text.text.items (search rules)

pub loop-offset-preserved : goal.loop-offset-preserved
loop-offset-preserved c =
    let offset = c.loop-offset.offset in
    let immediate = c.immediate_of-immediate.ensures in
    disassembled_more c.args.rom.now c.args.labels.now c.loop-offset.text.items offset c.loop-offset-test.true c.loop-offset.invariant
    c.append_label_lines.new.text.items c.append_instruction.new.text.items (offset + (1 + length c.immediate_of-immediate.result.now))
    c.in_ok-append_label_lines.ensures (rw (← immediate) c.in_ok-append_instruction.ensures) (omega (arith, ap length immediate))

pub returns : goal.returns
returns c = disassembled_end c.args.rom.now c.args.labels.now c.loop-offset.text.items c.loop-offset.offset (omega arith) c.loop-offset.invariant
