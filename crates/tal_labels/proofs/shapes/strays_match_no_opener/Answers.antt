use Rattle.tal_labels.proofs.OpenLemmas.{stray_law}
use Rattle.tal_labels.proofs.shapes.strays_match_no_opener.Goals as goal

pub returns : goal.returns
returns c = stray_law
