use Rattle.uxn_line.proofs.Common.{sym, ◌∙◌, ConsoleByte, counted_input, holding}
use Rattle.uxn_line.proofs.MachineTurns.{counted-same, turn-gives}
use Rattle.uxn_line.proofs.machine.Machine.give.Goals as goal

pub returns-clause-stands : goal.returns-clause-stands
returns-clause-stands c now pending_inputs stands are for_console goes_on =
    let byte : ConsoleByte = (c.in-Some.byte, c.in-Some.kind) in
    let same = counted-same c.args.pending_input now.done.last in
    let hold = c.hold-address.ensures in
    rw (turn-gives c.args.budget now c.args.pending_input pending_inputs (sym stands.left ∙ c.requires) are goes_on byte
    (sym c.console_byte.ensures ∙ c.in-Some.is))
    (c.begin.ensures.begins (holding byte (counted_input c.args.pending_input now.done.last)) now.done pending_inputs (stands.core ∙ same.0)
    (rw same.1 at (hold.devices _ stands.devices)) (rw same.1 at (hold.vector _ stands.devices)))
