use Rattle.tal_rom.proofs.Common.{◌-◌, VISIT_LIMIT, IsOnItsWay}
use Rattle.tal_rom.proofs.assembly.add_all.Given as goal

abbrev pub invariant-loop-word : goal.invariant-loop-word
invariant-loop-word l = IsOnItsWay l.source l.expander l.placer l.patcher

abbrev pub decreases-loop-word : goal.decreases-loop-word
decreases-loop-word l = VISIT_LIMIT - l.expander.visited
