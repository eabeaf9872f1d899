use Rattle.std.proofs.Common.{add-one, append_assoc, refl}
unfoldable use Rattle.uxn_cli.specs.WorkloadSource.{calls}
use Rattle.uxn_cli.proofs.making.push_calls.Goals as goal

pub loop-i-preserved : goal.loop-i-preserved
unfolding calls
loop-i-preserved c = rw (c.in_ok-push_call.ensures, c.loop-i.invariant, append_assoc, add-one) refl
