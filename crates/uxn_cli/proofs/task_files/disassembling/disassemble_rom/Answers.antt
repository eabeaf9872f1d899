use Rattle.uxn_cli.proofs.Common.{rules}
unfoldable use Rattle.uxn_cli.proofs.Common.{disassembly_of}
use Rattle.uxn_cli.proofs.StepLemmas.{step-stop, step-more, step-last}
use Rattle.uxn_cli.proofs.task_files.disassembling.disassemble_rom.Goals as goal

pub returns-in_err-rom : goal.returns-in_err-rom
unfolding disassembly_of
returns-in_err-rom g c = step-stop _ _ _ _ _ _ _ _ (search rules) c.in_err-rom.ensures.text

pub returns-in_err-labels : goal.returns-in_err-labels
unfolding disassembly_of
returns-in_err-labels g c =
    step-more _ _ _ _ _ _ _ _ _ c.in_ok-rom.ensures.text
    (step-stop _ _ _ _ _ _ _ _ (search rules) (rw c.new.ensures.items at c.in_err-labels.ensures))

pub returns : goal.returns
unfolding disassembly_of
returns g c =
    step-more _ _ _ _ _ _ _ _ _ c.in_ok-rom.ensures.text
    (step-last _ _ _ _ _ _ _ _ (rw c.new.ensures.items at c.in_ok-labels.ensures)
    (let text = rw (c.as_slice.ensures, c.deref.ensures.value) at c.disassemble.ensures.value in search (rules, text)))
