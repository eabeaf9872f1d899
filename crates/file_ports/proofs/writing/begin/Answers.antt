use Rattle.std.proofs.Common.{arith, ◌≡◌, [], true, Err, rules, inl, inr}
use Rattle.std.proofs.lemmas.Grind.{common_steps}
use Rattle.uxn_io_traits.specs.EndedLaws.{looked-ended, tree-first}
use Rattle.file_ports.proofs.ChangeLemmas.{file_made, begin-quiet, begin-new}
use Rattle.file_ports.proofs.writing.begin.Goals as goal

pub returns-in_err-goes_on-clause-tree : goal.returns-in_err-goes_on-clause-tree
returns-in_err-goes_on-clause-tree g c =
    let result : c.from_residual.result ≡ Err c.in_err-goes_on.field-0.0 = search rules in
    rw result (tree-first [] _ _ _ (looked-ended true _ _ c.in_err-goes_on.ensures.tree))

pub returns-then-branch-clause-tree : goal.returns-then-branch-clause-tree
returns-then-branch-clause-tree g c =
    begin-quiet c.args.path.now c.args.is_writing c.args.keep _ _ c.in_ok-goes_on.field-0 c.in_ok-goes_on.ensures.answer (inl c.if-branch.true) c.in_ok-goes_on.ensures.tree

pub returns-then-is_writing-clause-tree : goal.returns-then-is_writing-clause-tree
returns-then-is_writing-clause-tree g c =
    begin-quiet c.args.path.now c.args.is_writing c.args.keep _ _ c.in_ok-goes_on.field-0 c.in_ok-goes_on.ensures.answer (inr c.if-is_writing.true) c.in_ok-goes_on.ensures.tree

pub returns-clause-file : goal.returns-clause-file
returns-clause-file g c = file_made _ _ c.args.path.now c.create.result c.create.ensures.answer c.create.ensures.ended

pub returns-clause-tree : goal.returns-clause-tree
returns-clause-tree g c =
    begin-new c.args.path.now c.args.is_writing c.args.keep _ _ _ c.in_ok-goes_on.field-0 _ c.in_ok-goes_on.ensures.answer c.if-branch.false c.if-is_writing.false
    c.in_ok-goes_on.ensures.tree
    c.create.ensures.ended

pub returns-in_err-goes_on-clause-refused : goal.returns-in_err-goes_on-clause-refused
returns-in_err-goes_on-clause-refused g c = inl c.in_err-goes_on.ensures.tree.refusals

pub returns-then-branch-clause-refused : goal.returns-then-branch-clause-refused
returns-then-branch-clause-refused g c = inl c.in_ok-goes_on.ensures.tree.refusals

pub returns-then-is_writing-clause-refused : goal.returns-then-is_writing-clause-refused
returns-then-is_writing-clause-refused g c = inl c.in_ok-goes_on.ensures.tree.refusals

pub returns-clause-refused : goal.returns-clause-refused
returns-clause-refused g c = grind (arith, common_steps)
