use Rattle.tal_words.proofs.PlainTexts.{words_are, no_word_fault}
use Rattle.tal_words.proofs.plain.plain_words_are_the_words.Goals as goal

pub returns-clause-words : goal.returns-clause-words
returns-clause-words c = words_are

pub returns-clause-faultless : goal.returns-clause-faultless
returns-clause-faultless c = no_word_fault
