use Rattle.tal_include.proofs.SourceLemmas.{has_origins}
use Rattle.tal_include.proofs.source_laws.faults_of_flat_texts_have_an_origin.Goals as goal

pub returns : goal.returns
returns c = has_origins
