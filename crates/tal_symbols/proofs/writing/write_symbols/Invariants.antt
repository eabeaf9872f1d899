use Rattle.std.proofs.Common.{◌≡◌, take}
use Rattle.tal_symbols.specs.SymbolFile.{symbol_file}
use Rattle.tal_symbols.proofs.writing.write_symbols.Given as goal

abbrev pub invariant-loop-label : goal.invariant-loop-label
invariant-loop-label l = l.bytes.items ≡ symbol_file (take l.label-index l.labels)
