use Rattle.tal_include.proofs.FlatWordLemmas.{spliced_words}
use Rattle.tal_include.proofs.laws.flat_texts_have_the_spliced_words.Goals as goal

pub returns : goal.returns
returns c = spliced_words
