use Rattle.std.proofs.Common.{◌≡◌, ◌++◌, take}
use Rattle.uxn_cli.specs.Summary.{digits}
use Rattle.uxn_cli.proofs.summary.push_console.Given as goal

abbrev pub invariant-loop-byte : goal.invariant-loop-byte
invariant-loop-byte l = l.text.items ≡ l.initial.text.items ++ digits (take l.byte-index l.bytes)
