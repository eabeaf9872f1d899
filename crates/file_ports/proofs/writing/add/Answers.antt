use Rattle.std.proofs.Common.{◌≡◌, Err, rules, true, false}
use Rattle.uxn_io_traits.specs.Ended.{appending}
use Rattle.uxn_io_traits.specs.EndedLaws.{at-most-on}
use Rattle.file_ports.proofs.ChangeLemmas.{added-first, added-none, added-all}
use Rattle.file_ports.proofs.writing.add.Goals as goal

pub returns-in_err-begin-clause-tree : goal.returns-in_err-begin-clause-tree
returns-in_err-begin-clause-tree g c =
    let result : c.from_residual.result ≡ Err c.in_err-begin.field-0.0 = search rules in
    rw result (added-first c.args.path.now c.args.is_writing c.args.keep _ _ (appending c.args.path.now c.args.piece.now) c.in_err-begin.ensures.tree)

pub returns-then-not-branch-clause-tree : goal.returns-then-not-branch-clause-tree
returns-then-not-branch-clause-tree g c =
    added-none c.args.path.now c.args.is_writing c.args.keep _ _ (appending c.args.path.now c.args.piece.now) c.in_ok-begin.field-0
    c.in_ok-begin.ensures.begun c.if-not-branch.true c.in_ok-begin.ensures.tree

pub returns-in_err-append_all-clause-tree : goal.returns-in_err-append_all-clause-tree
returns-in_err-append_all-clause-tree g c =
    let result : c.from_residual-in_err-append_all.result ≡ Err c.in_err-append_all.field-0.0 = search rules in
    rw result (added-all c.args.path.now c.args.is_writing c.args.keep _ _ _ c.args.piece.now c.in_ok-begin.field-0 true
    c.in_ok-begin.ensures.begun c.if-not-branch.false c.in_ok-begin.ensures.tree c.in_err-append_all.ensures.ended)

pub returns-clause-tree : goal.returns-clause-tree
returns-clause-tree g c =
    added-all c.args.path.now c.args.is_writing c.args.keep _ _ _ c.args.piece.now c.in_ok-begin.field-0 false
    c.in_ok-begin.ensures.begun c.if-not-branch.false c.in_ok-begin.ensures.tree c.in_ok-append_all.ensures.ended

pub returns-in_err-append_all-clause-refused : goal.returns-in_err-append_all-clause-refused
returns-in_err-append_all-clause-refused g c =
    at-most-on c.args.path.now false _ _ _ (g.T.Tree.state c.append_all.new.tree) c.in_ok-begin.ensures.tree c.in_ok-begin.ensures.refused
    c.append_all.ensures.refused

pub returns-clause-refused : goal.returns-clause-refused
returns-clause-refused g c =
    at-most-on c.args.path.now false _ _ _ (g.T.Tree.state c.append_all.new.tree) c.in_ok-begin.ensures.tree c.in_ok-begin.ensures.refused
    c.append_all.ensures.refused
