-- The loop ends with the whole run filled, and `filled-at` says which bytes these are.
use Rattle.std.proofs.Common.{◌≡◌, arith}
use Rattle.uxn_memory.proofs.Runs.{filled-at}
use Rattle.uxn_memory.proofs.Memory.fill.Goals as goal

pub returns-clause-each : goal.returns-clause-each
returns-clause-each c = λ k h.
    let each = filled-at c.args.self.now c.args.length c.args.bank c.args.at c.args.value k (omega arith) (omega arith) (omega arith) in
    let whole : c.loop-i.i ≡ c.args.length = omega arith in
    rw (c.loop-i.invariant, whole) each
