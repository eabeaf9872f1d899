-- The loop ends with the whole run copied, and `copied_down-outside` says which bytes that leaves alone.
use Rattle.std.proofs.Common.{List, ℕ, slice_index, sym, ap, ◌∙◌, arith}
use Rattle.uxn_memory.specs.Banks.{copied_down-outside}
use Rattle.uxn_memory.proofs.Runs.{copied_down-end}
use Rattle.uxn_memory.proofs.Memory.copy_down.Goals as goal

pub returns-clause-others : goal.returns-clause-others
returns-clause-others c = λ k outside.
    let end = copied_down-end c.loop-i.self c.loop-i.i c.args.from_bank c.args.from c.args.to_bank c.args.to c.loop-i-test.false in
    ap (λ (memory : List ℕ). slice_index memory k) (sym end ∙ c.loop-i.invariant)
    ∙ copied_down-outside c.args.self.now c.args.length c.args.from_bank c.args.from c.args.to_bank c.args.to k (omega arith) (omega arith) outside
