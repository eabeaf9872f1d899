use Rattle.uxn_line.proofs.Common.{instruction-borrowed, rules}
use Rattle.uxn_line.proofs.Alone.{nothing, instruction-alone}
use Rattle.uxn_line.proofs.machine.run_instruction.Goals as goal

pub returns-clause-done : goal.returns-clause-done
returns-clause-done c =
    let done = c.step-done.ensures in
    let borrowed = instruction-borrowed nothing _ _ _ _ _ done.instruction in
    instruction-alone _ _ _ _ c.step-done.result c.args.devices.now _ c.new-bus.ensures.devices_now (search (rules, borrowed.borrowed.devices))
    done.instruction done.ledger
