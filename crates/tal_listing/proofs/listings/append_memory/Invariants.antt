use Rattle.std.proofs.Common.{◌≡◌, ◌++◌, ◌+◌}
use Rattle.tal_listing.specs.Listing.{memory_bytes, spaced_bytes}
use Rattle.tal_listing.proofs.listings.append_memory.Given as goal

abbrev pub invariant-loop-i : goal.invariant-loop-i
invariant-loop-i l = l.text.items ≡ l.initial.text.items ++ spaced_bytes (memory_bytes l.rom (l.offset + 256) l.i)
