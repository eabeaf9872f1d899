use Rattle.std.proofs.Common.{sym}
use Rattle.tal_labels.proofs.KeptLemmas.{placed_next}
use Rattle.tal_labels.proofs.placer.one_word_more_is_placed_behind.Goals as goal

pub returns : goal.returns
returns c = λ source words word form sound shaped. sym (placed_next source words word form shaped sound)
