-- The digits that are left complete the number.
use Rattle.std.proofs.Common.{◌≡◌, ◌≤◌, length}
use Rattle.uxn_memory.specs.Bytes.{with_bytes}
use Rattle.file_ports.specs.Signs.{hex_digits}
use Rattle.file_ports.proofs.signs.put_digits.Given as goal

abbrev pub invariant-loop-left : goal.invariant-loop-left
invariant-loop-left l = record {
  within : l.left ≤ l.span.count;
  size : length l.memory ≡ 1048576;
  digits : with_bytes l.memory l.span.at (hex_digits l.left l.rest) ≡ with_bytes l.fn.memory l.span.at (hex_digits l.span.count l.value);
}

abbrev pub decreases-loop-left : goal.decreases-loop-left
decreases-loop-left l = l.left
