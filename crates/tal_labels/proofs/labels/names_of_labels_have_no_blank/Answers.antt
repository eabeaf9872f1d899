use Rattle.tal_labels.proofs.LabelNames.{all_named}
use Rattle.tal_labels.proofs.labels.names_of_labels_have_no_blank.Goals as goal

pub returns : goal.returns
returns c = all_named
