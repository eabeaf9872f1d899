-- No slash stands from the end of what is left on.
use Rattle.std.proofs.Common.{◌≤◌, length}
use Rattle.uxn_io_traits.specs.PathText.{HasNoSlashFrom}
use Rattle.uxn_io_traits.proofs.paths.last_slash.Given as goal

abbrev pub invariant-loop-end : goal.invariant-loop-end
invariant-loop-end l = record { within : l.end ≤ length l.text; none : HasNoSlashFrom l.text l.end }

abbrev pub decreases-loop-end : goal.decreases-loop-end
decreases-loop-end l = l.end
