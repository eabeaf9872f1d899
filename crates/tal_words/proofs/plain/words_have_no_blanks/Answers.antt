use Rattle.tal_words.proofs.BlankFree.{words_free}
use Rattle.tal_words.proofs.plain.words_have_no_blanks.Goals as goal

pub returns : goal.returns
returns c = words_free
