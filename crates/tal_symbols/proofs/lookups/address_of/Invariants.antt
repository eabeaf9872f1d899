use Rattle.std.proofs.Common.{◌≡◌, drop}
use Rattle.tal_words.specs.Labels.{address_named}
use Rattle.tal_symbols.proofs.lookups.address_of.Given as goal

abbrev pub invariant-loop-label : goal.invariant-loop-label
invariant-loop-label l = address_named (drop l.label-index l.labels) l.name ≡ address_named l.labels l.name
