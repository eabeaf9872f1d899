-- What was listed, and what is listed of the nodes that are left.
use Rattle.std.proofs.Common.{◌≡◌, ◌++◌, drop}
use Rattle.std.specs.List.{All, filter_map}
use Rattle.uxn_io_traits.specs.Children.{entry_in, IsEntry}
use Rattle.uxn_io.specs.InMemory.Places.{place_entry}
use Rattle.uxn_io.proofs.memory.places.children.Given as goal

abbrev pub invariant-loop-held : goal.invariant-loop-held
invariant-loop-held l = record {
  listed : l.entries.items ++ filter_map (λ held. entry_in l.folder (place_entry held)) (drop l.held-index l.used) ≡ filter_map (λ held. entry_in l.folder (place_entry held)) l.used;
  entries : All IsEntry l.entries.items;
}
