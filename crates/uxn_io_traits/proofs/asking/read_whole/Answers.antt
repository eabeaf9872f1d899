use Rattle.std.proofs.lemmas.Result.{err_from_is_err_and}
use Rattle.uxn_io_traits.specs.Question.{WholeFile}
use Rattle.uxn_io_traits.proofs.AskingLemmas.{question-stopped, question-answered}
use Rattle.uxn_io_traits.proofs.asking.read_whole.Goals as goal

pub returns-in_err-file : goal.returns-in_err-file
returns-in_err-file g c =
    let p = err_from_is_err_and c.from_residual.result c.from_residual.ensures.1 in
    rw (p.1, p.2) (question-stopped (WholeFile c.args.path.now c.args.limit) _ _ c.in_err-file.field-0.0 c.in_err-file.ensures.looked
    c.in_err-file.ensures.requests)

pub returns : goal.returns
returns g c =
    let read = c.in_ok-file.ensures in
    question-answered (WholeFile c.args.path.now c.args.limit) _ _ _ read.answer read.limit read.requests read.looked
