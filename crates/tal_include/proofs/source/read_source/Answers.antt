use Rattle.std.proofs.Common.{is_some, ap, sym, ◌∙◌}
use Rattle.std.proofs.lemmas.Result.{err_from_is_err_and}
use Rattle.uxn_io_traits.specs.Leads.{Here}
use Rattle.uxn_io_traits.specs.AskingLaws.{leads-no-memory}
use Rattle.tal_include.specs.Splice.{is_spliced}
use Rattle.tal_include.specs.Sources.{source_inquiry, sourced_of}
use Rattle.tal_include.proofs.SourceLemmas.{by-itself, by-files}
use Rattle.tal_include.proofs.source.read_source.Goals as goal

pub returns-in_err-words-clause-answer : goal.returns-in_err-words-clause-answer
returns-in_err-words-clause-answer g c =
    let p = err_from_is_err_and c.from_residual.result c.from_residual.ensures.1 in
    let whole = source_inquiry c.args.main.now c.args.source.list in
    rw (p.1, p.2) (leads-no-memory sourced_of whole whole _ _ Here)

pub returns-in-None-clause-answer : goal.returns-in-None-clause-answer
returns-in-None-clause-answer g c =
    let own = sym (ap is_some c.in-None.is) ∙ c.in_ok-words.ensures.spliced ∙ ap is_spliced c.as_slice.ensures in
    by-itself c.args.main.now c.args.source.list _ c.assemble_own.result own c.assemble_own.ensures.answer

pub returns-in-Some-clause-answer : goal.returns-in-Some-clause-answer
returns-in-Some-clause-answer g c =
    let is = sym (c.in_ok-words.ensures.spliced ∙ ap is_spliced c.as_slice.ensures) ∙ ap is_some c.in-Some.is in
    by-files c.args.main.now c.args.source.list _ _ c.read_spliced.result is (rw c.as_slice-in-Some.ensures at c.read_spliced.ensures.answer)
