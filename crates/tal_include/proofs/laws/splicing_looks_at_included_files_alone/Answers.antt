use Rattle.uxn_io_traits.specs.InquiryLaws.{same-answer}
use Rattle.tal_include.specs.Splice.{splice_inquiry}
use Rattle.tal_include.proofs.laws.splicing_looks_at_included_files_alone.Goals as goal

pub returns : goal.returns
returns c = λ nodes other main source agree. same-answer nodes other (splice_inquiry main source) agree
