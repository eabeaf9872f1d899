use Rattle.std.proofs.Common.{◌≡◌, drop}
use Rattle.std.specs.List.{position_from}
use Rattle.std.specs.Str.{bytes_eq}
use Rattle.tal_words.specs.Opcodes.{operation_names}
use Rattle.tal_words.proofs.opcode.operation_of.Given as goal

abbrev pub invariant-loop-code : goal.invariant-loop-code
invariant-loop-code l = position_from (bytes_eq l.name) l.code (drop l.code operation_names) ≡ position_from (bytes_eq l.name) 0 operation_names
