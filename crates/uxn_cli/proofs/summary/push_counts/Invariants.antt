use Rattle.std.proofs.Common.{◌≡◌, ◌++◌, take}
use Rattle.std.specs.Prelude.{decimal}
use Rattle.std.specs.List.{flat_map}
use Rattle.uxn_cli.specs.Summary.{line}
use Rattle.uxn_cli.proofs.summary.push_counts.Given as goal

abbrev pub invariant-loop-name : goal.invariant-loop-name
invariant-loop-name l = l.text.items ≡ l.initial.text.items ++ flat_map (λ count. line count.0.now (decimal count.1)) (take l.name-index l.counts)
