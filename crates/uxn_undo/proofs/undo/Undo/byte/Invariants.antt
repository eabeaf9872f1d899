use Rattle.uxn_undo.proofs.Common.{◌≡◌, ◌-◌, take, drop, sum_by, slice_index, entry_count, moments_in}
use Rattle.uxn_undo.specs.Kept.{byte_back}
use Rattle.uxn_undo.proofs.undo.Undo.byte.Given as goal

abbrev pub invariant-loop-index : goal.invariant-loop-index
invariant-loop-index l = record {
  begins : l.begin ≡ sum_by entry_count (take l.index l.self-inside.records.items);
  same : byte_back (take l.back (moments_in l.self-inside.rows.items l.self-inside.records.items l.self-inside.bytes.items)) l.at (slice_index l.core.memory l.at)
      ≡ byte_back (take (l.back - l.index) (moments_in l.self-inside.rows.items (drop l.index l.self-inside.records.items) (drop l.begin l.self-inside.bytes.items))) l.at l.byte;
}
