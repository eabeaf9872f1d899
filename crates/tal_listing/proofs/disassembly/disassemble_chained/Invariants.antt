use Rattle.std.proofs.Common.{length, ◌-◌}
use Rattle.tal_listing.proofs.DisassemblyLemmas.{DisassembledTo}
use Rattle.tal_listing.proofs.disassembly.disassemble_chained.Given as goal

abbrev pub invariant-loop-offset : goal.invariant-loop-offset
invariant-loop-offset l = DisassembledTo l.rom l.labels l.text.items l.offset

abbrev pub decreases-loop-offset : goal.decreases-loop-offset
decreases-loop-offset l = length l.rom - l.offset
