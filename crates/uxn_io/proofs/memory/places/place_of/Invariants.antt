-- The path is looked for among the nodes that are left.
use Rattle.std.proofs.Common.{◌≡◌, drop}
use Rattle.uxn_io.specs.InMemory.Places.{place_of}
use Rattle.uxn_io.proofs.InMemory.PlaceLemmas.{from_place}
use Rattle.uxn_io.proofs.memory.places.place_of.Given as goal

abbrev pub invariant-loop-at : goal.invariant-loop-at
invariant-loop-at l = from_place l.at (place_of l.path (drop l.at l.used)) ≡ place_of l.path l.used
