-- There are as many free places as the loop has made.
use Rattle.std.proofs.Common.{◌≡◌, ◌≤◌, vec_len, vec_capacity}
use Rattle.std.specs.List.{All}
use Rattle.uxn_io.specs.InMemory.Places.{IsFree}
use Rattle.uxn_io.proofs.memory.places.empty_places.Given as goal

abbrev pub invariant-loop-i : goal.invariant-loop-i
invariant-loop-i l = record {
  count : vec_len l.free ≡ l._i;
  free : All (IsFree l.room) l.free.items;
  total : l.total ≤ vec_capacity l.free;
}
