use Rattle.std.proofs.Common.{length, ap, arith}
use Rattle.std.proofs.lemmas.Result.{IfOk-weaker}
use Rattle.tal_listing.proofs.DisassemblyLemmas.{disassembly_assembles}
use Rattle.tal_listing.proofs.disassembly.disassemble.Goals as goal

pub returns-clause-assembles : goal.returns-clause-assembles
returns-clause-assembles c =
    IfOk-weaker c.disassemble_chained.result _ _
    (λ text is readable short.
    rw is (disassembly_assembles c.args.rom.now c.args.labels.now (λ i within. omega (arith, c.type_inv.rom i)) c.requires readable (omega (arith, ap length is))))
    c.disassemble_chained.ensures
