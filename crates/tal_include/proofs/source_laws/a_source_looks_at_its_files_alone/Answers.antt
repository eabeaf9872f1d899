use Rattle.uxn_io_traits.specs.InquiryLaws.{same-answer}
use Rattle.tal_include.specs.Sources.{source_inquiry}
use Rattle.tal_include.proofs.source_laws.a_source_looks_at_its_files_alone.Goals as goal

pub returns : goal.returns
returns c = λ nodes other main source agree. same-answer nodes other (source_inquiry main source) agree
