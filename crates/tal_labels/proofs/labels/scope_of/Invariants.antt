use Rattle.tal_labels.proofs.Common.{◌≡◌, ◌<◌, ℕ, true, get_or, not, ◌==◌}
use Rattle.tal_labels.proofs.labels.scope_of.Given as goal

abbrev pub invariant-loop-length : goal.invariant-loop-length
invariant-loop-length l = (k : ℕ) → k < l.length → not (get_or l.name k 0 == 47) ≡ true
