use Rattle.uxn_line.proofs.Common.{common_steps, arith}
use Rattle.uxn_line.proofs.MachineTurns.{run-stands, run-put}
use Rattle.uxn_line.proofs.machine.Machine.run.Goals as goal

pub returns-clause-stands : goal.returns-clause-stands
returns-clause-stands c budget now stands =
    let ran = c.run_instruction-broke in
    run-stands budget c.args.self.now now ran.new.core ran.new.devices c.if-broke.self c.requires stands
    (ran.ensures.done now.done.last.devices stands.devices) (grind (arith, common_steps, c.if-broke.branch, ran.ensures.broke))

pub returns-clause-put : goal.returns-clause-put
returns-clause-put c budget now stands = run-put budget c.args.self.now now c.requires stands
