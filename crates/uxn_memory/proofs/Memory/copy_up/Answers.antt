-- The loop ends with the whole run copied, and `copied_up-outside` says which bytes that leaves alone.
use Rattle.std.proofs.Common.{◌≡◌, arith}
use Rattle.uxn_memory.specs.Banks.{copied_up-outside}
use Rattle.uxn_memory.proofs.Memory.copy_up.Goals as goal

pub returns-clause-others : goal.returns-clause-others
returns-clause-others c = λ k outside.
    let whole : c.loop-i.i ≡ c.args.length = omega arith in
    rw (c.loop-i.invariant, whole)
    (copied_up-outside c.args.self.now c.args.length c.args.from_bank c.args.from c.args.to_bank c.args.to k (omega arith) (omega arith) outside)
