-- The node is looked for among the entries that are left.
use Rattle.std.proofs.Common.{◌≡◌, drop}
use Rattle.std.specs.FinMap as map
use Rattle.uxn_io.specs.InMemory.Places.{nodes_of}
use Rattle.uxn_io.proofs.InMemory.LookupLemmas.{first_at}
use Rattle.uxn_io.proofs.memory.places.lookup.Given as goal

abbrev pub invariant-loop-entry : goal.invariant-loop-entry
invariant-loop-entry l = first_at l.path (drop l.entry-index l.used) ≡ map.get (nodes_of l.used) l.path
