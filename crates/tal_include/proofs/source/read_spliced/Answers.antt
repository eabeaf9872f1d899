use Rattle.uxn_io_traits.specs.declared.halt.Halt.TheVariants.{TreeFault, NoMemory}
use Rattle.tal_include.proofs.SourceLemmas.{flat-halted, flat-refused, flat-answered}
use Rattle.tal_include.proofs.source.read_spliced.Goals as goal

pub returns-in-Ok-clause-answer : goal.returns-in-Ok-clause-answer
returns-in-Ok-clause-answer g c =
    flat-answered c.args.main.now c.args.source.now _ _ c.in-Ok.flat c.assemble_flat.result c.in-Ok.ensures c.assemble_flat.ensures.answer

pub returns-in-Err-Refused-clause-answer : goal.returns-in-Err-Refused-clause-answer
returns-in-Err-Refused-clause-answer g c =
    flat-refused c.args.main.now c.args.source.now _ _ c.in-Err-Refused.fault c.deref.result.now c.refused.result
    c.deref.ensures.0 c.refused.ensures (rw c.in-Err-Refused.field-0-is at c.in-Err-Refused.ensures)

pub returns-in-Err-TreeFault-clause-answer : goal.returns-in-Err-TreeFault-clause-answer
returns-in-Err-TreeFault-clause-answer g c =
    flat-halted c.args.main.now c.args.source.now _ _ TreeFault (rw c.in-Err-TreeFault.field-0-is at c.in-Err-TreeFault.ensures)

pub returns-in-Err-NoMemory-clause-answer : goal.returns-in-Err-NoMemory-clause-answer
returns-in-Err-NoMemory-clause-answer g c =
    flat-halted c.args.main.now c.args.source.now _ _ NoMemory (rw c.in-Err-NoMemory.field-0-is at c.in-Err-NoMemory.ensures)
