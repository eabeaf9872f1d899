use Rattle.tal_symbols.proofs.WritingLemmas.{read_back}
use Rattle.tal_symbols.proofs.reading.written_symbols_are_read.Goals as goal

pub returns : goal.returns
returns c = read_back
