use Rattle.tal_labels.proofs.Common.{◌≡◌, ◌<◌, ◌≤◌, ◌-◌, length, map, get_or}
use Rattle.std.proofs.Common.{◌%◌}
use Rattle.tal_labels.specs.NameTables.{name_in}
use Rattle.tal_labels.proofs.TableLemmas.{IsFirstFrom}
use Rattle.tal_labels.proofs.name_table.NameTable.position.Given as goal

abbrev pub invariant-loop-end : goal.invariant-loop-end
invariant-loop-end l = record {
  first : IsFirstFrom l.name (map (name_in l.self-inside.bytes.items) l.self-inside.kept.items) l.end l.found;
  within : l.end ≤ length l.self-inside.chains.hashes.items;
  alike : 0 < l.end → get_or l.self-inside.chains.hashes.items (l.end - 1) 0 % length l.self-inside.chains.lasts.items
      ≡ l.hash % length l.self-inside.chains.lasts.items;
}

abbrev pub decreases-loop-end : goal.decreases-loop-end
decreases-loop-end l = l.end
