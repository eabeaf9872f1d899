-- The nodes behind the place stand in order.
use Rattle.std.proofs.Common.{◌≡◌, ◌+◌, ◌≤◌, drop, length, vec_len, vec_capacity}
use Rattle.std.specs.List.{All}
use Rattle.uxn_io.specs.InMemory.Places.{IsPlace, AreOrdered, nodes_of}
use Rattle.uxn_io.proofs.memory.places.copies.Given as goal

abbrev pub invariant-loop-i : goal.invariant-loop-i
invariant-loop-i l = record {
  nodes : nodes_of l.used.items ≡ nodes_of (drop l.i l.nodes);
  ordered : AreOrdered l.used.items;
  places : All (IsPlace l.room) l.used.items;
  few : vec_len l.used + l.i ≤ length l.nodes;
  total : vec_capacity l.used ≡ l.total;
}
