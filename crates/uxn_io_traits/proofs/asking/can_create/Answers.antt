use Rattle.std.proofs.Common.{inl, inr, ◌≡◌, not, ◌&&◌, arith}
use Rattle.std.proofs.lemmas.Result.{err_from_is_err_and}
use Rattle.uxn_io_traits.specs.EndedLaws.{looked-then}
use Rattle.uxn_io_traits.specs.declared.trees.ReadStop.TheVariants.{Failed}
use Rattle.uxn_io_traits.specs.RequestLaws.{receives-then}
use Rattle.uxn_io_traits.specs.Question.{CanCreate}
use Rattle.uxn_io_traits.proofs.AskingLemmas.{both-are, question-stopped, question-answered}
use Rattle.uxn_io_traits.proofs.asking.can_create.Goals as goal
use Rattle.uxn_io_traits.proofs.asking.can_create.Goals.{then-parent_is_folder, else-parent_is_folder}

pub returns-in_err-parent_is_folder : goal.returns-in_err-parent_is_folder
returns-in_err-parent_is_folder g c =
    let p = err_from_is_err_and c.from_residual.result c.from_residual.ensures.1 in
    rw (p.1, p.2) (question-stopped (CanCreate c.args.path.now) _ _ Failed c.in_err-parent_is_folder.ensures.looked
    (inr c.in_err-parent_is_folder.ensures.requests))

pub returns-in_err-is_folder : goal.returns-in_err-is_folder
returns-in_err-is_folder g c =
    let p = err_from_is_err_and c.from_residual-in_err-is_folder.result c.from_residual-in_err-is_folder.ensures.1 in
    let looked = looked-then _ _ _ _ c.in_ok-parent_is_folder.ensures.looked c.in_err-is_folder.ensures.looked in
    let requests = receives-then _ _ _ _ _ c.in_ok-parent_is_folder.ensures.requests c.in_err-is_folder.ensures.requests in
    rw (p.1, p.2) (question-stopped (CanCreate c.args.path.now) _ _ Failed looked (inl requests))

pub returns : goal.returns
returns g c =
    let parent = c.in_ok-parent_is_folder.parent_is_folder in
    let here = c.in_ok-is_folder.is_folder in
    let can : c.if-parent_is_folder.result ≡ (parent && not here) = elim c.if-parent_is_folder.branch [
      | then-parent_is_folder w ↦ grind (arith, w.result-is, w.if-parent_is_folder)
      | else-parent_is_folder w ↦ grind (arith, w.result-is, w.if-parent_is_folder)
    ] in
    let first = c.in_ok-parent_is_folder.ensures in
    let second = c.in_ok-is_folder.ensures in
    let known = both-are _ _ c.args.path.now parent here first.looked.contents first.answer second.answer in
    rw can (question-answered (CanCreate c.args.path.now) _ _ _ known tt (receives-then _ _ _ _ _ first.requests second.requests)
    (looked-then _ _ _ _ first.looked second.looked))
