use Rattle.uxn_undo.proofs.Common.{◌≡◌, ◌-◌, ◌≤◌, ◌++◌, map, slice_index, range_with_len, address_after_span, buffer}
use Rattle.uxn_undo.proofs.undo.put_bytes.Given as goal

abbrev pub invariant-loop-less : goal.invariant-loop-less
invariant-loop-less l = record {
  within : l.left ≤ l.span.count;
  items : l.bytes ≡ buffer (map (λ count. slice_index l.memory (address_after_span l.span count)) (range_with_len l.left (l.span.count - l.left))
      ++ l.initial.bytes.items) l.initial.bytes.capacity;
}

abbrev pub decreases-loop-less : goal.decreases-loop-less
decreases-loop-less l = l.left
