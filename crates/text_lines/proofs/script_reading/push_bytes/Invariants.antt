use Rattle.std.proofs.Common.{◌≡◌, ◌++◌, take, map}
use Rattle.text_lines.specs.declared.script.Event.TheVariants.{Input}
use Rattle.text_lines.proofs.script_reading.push_bytes.Given as goal

abbrev pub invariant-loop-byte : goal.invariant-loop-byte
invariant-loop-byte l = l.events.items ≡ l.fn.events.items ++ map Input (take l.byte-index l.bytes)
