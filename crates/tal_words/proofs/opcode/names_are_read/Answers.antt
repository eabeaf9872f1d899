use Rattle.tal_words.proofs.Operations.{name_read}
use Rattle.tal_words.proofs.opcode.names_are_read.Goals as goal

pub returns : goal.returns
returns c = name_read
