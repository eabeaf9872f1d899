use Rattle.uxn_cli.proofs.Clauses.Works.{disassembly_of, accepted_summary, Answer, inquires-said, text-asks}
use Rattle.uxn_arguments.specs.declared.task.Task.TheVariants as tasks
use Rattle.uxn_cli.proofs.work.carry_out.Goals as goal

pub returns-in-Disassemble-clause-does : goal.returns-in-Disassemble-clause-does
returns-in-Disassemble-clause-does g c =
    let task = c.in-Disassemble.task in
    rw c.in-Disassemble.is (c.print_text.ensures (tasks.Disassemble task) _ _ _
    (text-asks (disassembly_of task) _ _ c.disassemble_rom.result c.disassemble_rom.ensures))

pub returns-in-Generate-clause-does : goal.returns-in-Generate-clause-does
returns-in-Generate-clause-does g c =
    let count = c.in-Generate.count in
    rw c.in-Generate.is (c.print_text-in-Generate.ensures (tasks.Generate count) _ _ _
    (text-asks (Answer (accepted_summary count)) _ _ c.summarize.result (inquires-said _ _ _ _ c.summarize.ensures)))

pub returns-in-Assemble-clause-does : goal.returns-in-Assemble-clause-does
returns-in-Assemble-clause-does g c = rw c.in-Assemble.is (c.write.ensures _ _)

pub returns-in-Line-clause-does : goal.returns-in-Line-clause-does
returns-in-Line-clause-does g c = rw c.in-Line.is (c.join.ensures _)
