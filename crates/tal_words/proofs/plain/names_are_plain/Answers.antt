use Rattle.tal_words.proofs.PlainNames.{name_plain, form-name}
use Rattle.tal_words.proofs.plain.names_are_plain.Goals as goal

pub returns-clause-plain : goal.returns-clause-plain
returns-clause-plain c = name_plain

pub returns-clause-opcode : goal.returns-clause-opcode
returns-clause-opcode c = form-name
