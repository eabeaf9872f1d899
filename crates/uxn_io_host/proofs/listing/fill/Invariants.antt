-- What was listed are entries, and nothing failed so far.
use Rattle.std.specs.Prelude.{◌≡◌}
use Rattle.std.specs.List.{All}
use Rattle.uxn_io_traits.specs.Children.{IsEntry}
use Rattle.uxn_io_host.proofs.listing.fill.Given as goal

abbrev pub invariant-loop-found : goal.invariant-loop-found
invariant-loop-found g l = record {
  entries : All IsEntry l.entries.items;
  faults : l.files.faults ≡ l.fn.files.faults;
}
