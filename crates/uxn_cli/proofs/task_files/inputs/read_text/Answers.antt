use Rattle.uxn_cli.proofs.Common.{rules, Ok, FileBytes}
unfoldable use Rattle.uxn_cli.proofs.Common.{text_of}
use Rattle.std.specs.Prelude.{IfOk}
use Rattle.uxn_io_traits.specs.Inquiry.{file_of}
use Rattle.uxn_io_traits.specs.AskingLaws.{always-answers}
use Rattle.uxn_io_traits.specs.WholeFile.{KeepsLimit}
use Rattle.uxn_cli.specs.Inputs.{size_rule}
use Rattle.uxn_cli.proofs.StepLemmas.{step-stop, step-last}
use Rattle.uxn_cli.proofs.task_files.inputs.read_text.Goals as goal

pub returns-in_err-file-clause-text : goal.returns-in_err-file-clause-text
unfolding text_of
returns-in_err-file-clause-text g c = step-stop _ _ _ _ _ _ _ _ (search rules) (rw c.limit.ensures at c.in_err-file.ensures)

pub returns-clause-text : goal.returns-clause-text
unfolding text_of
returns-clause-text g c = step-last _ _ _ _ _ _ _ _ (rw c.limit.ensures at c.in_ok-file.ensures) c.kind_text.ensures.says

pub returns-clause-limit : goal.returns-clause-limit
returns-clause-limit g c =
    let limit = (size_rule c.args.kind).most in
    c.kind_text.ensures.limit (always-answers (λ (file : FileBytes). file) (file_of c.args.path.now limit) _ _ (λ answer. IfOk answer (KeepsLimit limit)) (Ok c.in_ok-file.file)
    (λ reply is. is) (rw c.limit.ensures at c.in_ok-file.ensures))
