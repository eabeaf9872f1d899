use Rattle.std.proofs.Common.{◌≡◌, ◌++◌, take}
use Rattle.tal_listing.specs.Texts.{hex_of_bytes}
use Rattle.tal_listing.proofs.disassembly.append_immediate.Given as goal

abbrev pub invariant-loop-byte : goal.invariant-loop-byte
invariant-loop-byte l = l.text.items ≡ l.initial.text.items ++ hex_of_bytes (take l.byte-index l.bytes)
