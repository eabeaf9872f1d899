use Rattle.tal_labels.proofs.PlainLemmas.{plain_laid, plain_faultless}
use Rattle.tal_labels.proofs.plain.plain_words_stand_one_behind_the_other.Goals as goal

pub returns-clause-addresses : goal.returns-clause-addresses
returns-clause-addresses c source words coded are all = (plain_laid source words coded are all).1

pub returns-clause-faultless : goal.returns-clause-faultless
returns-clause-faultless c = plain_faultless
