use Rattle.std.proofs.Common.{◌≡◌, ◌+◌, ◌*◌, ◌++◌, take}
use Rattle.std.specs.List.{flat_map}
use Rattle.arrayvec.specs.ArrayVec.{array_vec_len}
use Rattle.system_port.specs.DebugText.{spaced}
use Rattle.system_port.proofs.debug.put_line.Given as goal

abbrev pub invariant-loop-byte : goal.invariant-loop-byte
invariant-loop-byte l =
    (l.text.items ≡ l.initial.text.items ++ flat_map spaced (take l.byte-index l.byte-items)) × (array_vec_len l.text ≡ array_vec_len l.initial.text + 3 * l.byte-index)
