use Rattle.std.proofs.Common.{◌≡◌, ◌≤◌, drop, length}
use Rattle.tal_symbols.specs.Tables.{AreFirst}
use Rattle.tal_symbols.proofs.label_table.first_numbers.Given as goal

abbrev pub invariant-loop-less : goal.invariant-loop-less
invariant-loop-less l = record {
  size : length l.numbers.items ≡ 65536;
  first : AreFirst l.labels (drop l.left l.labels) l.numbers.items;
  within : l.left ≤ length l.labels;
}

abbrev pub decreases-loop-less : goal.decreases-loop-less
decreases-loop-less l = l.left
