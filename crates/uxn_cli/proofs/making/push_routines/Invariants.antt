use Rattle.std.proofs.Common.{◌≡◌, ◌++◌}
use Rattle.uxn_cli.specs.WorkloadSource.{number, routines}
use Rattle.uxn_cli.proofs.making.push_routines.Given as goal

abbrev pub invariant-loop-i : goal.invariant-loop-i
invariant-loop-i l = (l.text.items ≡ l.initial.text.items ++ routines l.count l.i) × (l.value ≡ number l.count l.i)
