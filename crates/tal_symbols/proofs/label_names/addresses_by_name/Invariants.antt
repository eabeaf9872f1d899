use Rattle.std.proofs.Common.{◌≡◌, ◌≤◌, drop, length}
use Rattle.tal_symbols.specs.Tables.{AreAddresses}
use Rattle.tal_symbols.proofs.label_names.addresses_by_name.Given as goal

abbrev pub invariant-loop-less : goal.invariant-loop-less
invariant-loop-less l = record {
  addresses : AreAddresses (λ key. key.now) (drop l.left l.labels) l.addresses.entries;
  within : l.left ≤ length l.labels;
}

abbrev pub decreases-loop-less : goal.decreases-loop-less
decreases-loop-less l = l.left
