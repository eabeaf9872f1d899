use Rattle.std.proofs.Common.{Vec, Global}
use Rattle.std.proofs.lemmas.Result.{err_from_is_err_and}
use Rattle.tal_words.specs.declared.span.Word.{Word}
use Rattle.uxn_io_traits.specs.Leads.{Here}
use Rattle.uxn_io_traits.specs.AskingLaws.{leads-refused}
use Rattle.tal_include.specs.Splice.{words_in, splice_inquiry}
use Rattle.tal_include.proofs.splicing.splice.Goals as goal

pub returns-in_err-words : goal.returns-in_err-words
unfolding splice_inquiry
returns-in_err-words g c =
    let p = err_from_is_err_and c.from_residual.result c.from_residual.ensures.1 in
    rw (p.1, p.2)
    (leads-refused (λ (words : Vec Word Global). words.items) (λ flat. flat) (splice_inquiry c.args.main.now c.args.source.now)
    (words_in c.args.main.now c.args.source.now) _ _ _ c.in_err-words.field-0.0 Here c.in_err-words.ensures)
