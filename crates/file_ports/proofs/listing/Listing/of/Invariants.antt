use Rattle.std.proofs.Common.{◌≡◌, take}
use Rattle.file_ports.specs.Listing.{folder_listing}
use Rattle.file_ports.proofs.listing.Listing.of.Given as goal

abbrev pub invariant-loop-entry : goal.invariant-loop-entry
invariant-loop-entry l = l.text.items ≡ folder_listing (take l.entry-index l.entries)
