use Rattle.std.proofs.Common.{◌≡◌, take}
use Rattle.std.specs.Option.{option_copied}
use Rattle.tal_symbols.specs.Lookups.{nearest_label}
use Rattle.tal_symbols.proofs.lookups.nearest.Given as goal

abbrev pub invariant-loop-label : goal.invariant-loop-label
invariant-loop-label l = option_copied l.nearest ≡ nearest_label (take l.label-index l.labels) l.address
