use Rattle.std.proofs.Common.{◌≡◌, ◌++◌}
use Rattle.uxn_cli.specs.WorkloadSource.{calls}
use Rattle.uxn_cli.proofs.making.push_calls.Given as goal

abbrev pub invariant-loop-i : goal.invariant-loop-i
invariant-loop-i l = l.text.items ≡ l.initial.text.items ++ calls l.i
