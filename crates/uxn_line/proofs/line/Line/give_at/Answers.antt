use Rattle.uxn_line.proofs.Common.{◌≡◌, suc, ◌-◌, arith}
use Rattle.uxn_line.proofs.line.Line.give_at.Goals as goal

pub give_first-requires : goal.give_first-requires
give_first-requires c = rw c.if-index-eq0.true at c.requires

pub returns-then-index-eq0 : goal.returns-then-index-eq0
returns-then-index-eq0 c = rw c.if-index-eq0.true c.give_first.ensures

pub give_behind-requires : goal.give_behind-requires
give_behind-requires c = let is : suc (c.args.index - 1) ≡ c.args.index = omega (arith, c.if-index-eq0.false) in rw is c.requires

pub returns : goal.returns
returns c = let is : suc (c.args.index - 1) ≡ c.args.index = omega (arith, c.if-index-eq0.false) in rw is at c.give_behind.ensures
