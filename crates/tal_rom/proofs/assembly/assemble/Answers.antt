use Rattle.tal_rom.proofs.Common.{List, err_from_is_err_and, Vec}
use Rattle.tal_words.specs.declared.span.Word.{Word}
use Rattle.tal_rom.proofs.AssemblyLemmas.{stopped, refused, words_first}
use Rattle.tal_rom.proofs.assembly.assemble.Goals as goal

pub returns-in_err-words : goal.returns-in_err-words
returns-in_err-words c =
    let p = err_from_is_err_and c.from_residual.result c.from_residual.ensures.1 in
    let stop = c.in_err-words.field-0.0 in
    rw (p.1, p.2) (refused c.args.source.now stop (stopped {X = Vec Word} {Y = List Word} (λ v. v.items) _ c.args.source.now stop _
    (words_first c.args.source.now) c.in_err-words.ensures.value))
