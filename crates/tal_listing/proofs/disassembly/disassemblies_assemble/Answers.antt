use Rattle.tal_listing.proofs.DisassemblyLemmas.{disassembly_assembles}
use Rattle.tal_listing.proofs.disassembly.disassemblies_assemble.Goals as goal

pub returns : goal.returns
returns c = disassembly_assembles
