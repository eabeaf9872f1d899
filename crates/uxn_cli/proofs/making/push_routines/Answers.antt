use Rattle.std.proofs.Common.{add-one, append_assoc, refl}
unfoldable use Rattle.uxn_cli.specs.WorkloadSource.{routines}
use Rattle.uxn_cli.proofs.making.push_routines.Goals as goal

pub loop-i-preserved : goal.loop-i-preserved
unfolding routines
loop-i-preserved c =
    (rw (c.in_ok-push_routine.ensures, c.loop-i.invariant.0, c.loop-i.invariant.1, append_assoc, add-one) refl, rw (c.next_number-value.ensures, c.loop-i.invariant.1, add-one) refl)
