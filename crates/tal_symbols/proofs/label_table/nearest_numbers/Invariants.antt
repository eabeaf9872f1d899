use Rattle.std.proofs.Common.{◌≡◌, length}
use Rattle.tal_symbols.proofs.TableLemmas.{Swept}
use Rattle.tal_symbols.proofs.label_table.nearest_numbers.Given as goal

abbrev pub invariant-loop-address : goal.invariant-loop-address
invariant-loop-address l = record {
  size : length l.numbers.items ≡ 65536;
  swept : Swept l.labels l.address l.numbers.items;
}
