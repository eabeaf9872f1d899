use Rattle.std.proofs.Common.{refl, sym, ◌∙◌, Some, None}
use Rattle.tal_words.specs.Opcodes.{operation_names}
use Rattle.tal_words.proofs.Operations.{moded-cut}
use Rattle.tal_words.proofs.opcode.moded_op_byte.Goals as goal

pub returns-in-Some : goal.returns-in-Some
returns-in-Some c =
    moded-cut operation_names c.args.word.now _ _ c.min.result (Some c.in-Some.operation) c.moded.result
    c.min.ensures c.split_at.ensures.front c.split_at.ensures.back (sym c.in-Some.is ∙ c.operation_of.ensures.value) c.moded.ensures

pub returns-in-None : goal.returns-in-None
returns-in-None c =
    moded-cut operation_names c.args.word.now _ _ c.min.result None None
    c.min.ensures c.split_at.ensures.front c.split_at.ensures.back (sym c.in-None.is ∙ c.operation_of.ensures.value) refl
