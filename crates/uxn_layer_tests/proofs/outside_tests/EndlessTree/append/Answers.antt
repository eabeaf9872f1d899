use Rattle.std.proofs.Common.{false, refl}
use Rattle.uxn_io_traits.specs.CallLaws.{unknown-ended}
use Rattle.uxn_io_traits.specs.FaultLaws.{counted-same}
use Rattle.uxn_layer_tests.proofs.outside_tests.EndlessTree.append.Goals as goal

pub returns-clause-ended : goal.returns-clause-ended
returns-clause-ended c = unknown-ended _ false _ _ refl refl refl (counted-same _)
