use Rattle.tal_rom.specs.Passing.{IsOnItsWay}
use Rattle.uxn_layer_tests.proofs.patcher_tests.tells_in_turn.Given as goal

abbrev pub invariant-loop-contents : goal.invariant-loop-contents
invariant-loop-contents l = IsOnItsWay l.source l.expander l.placer l.patcher
