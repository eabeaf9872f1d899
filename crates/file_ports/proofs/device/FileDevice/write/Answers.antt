use Rattle.std.proofs.Common.{◌≡◌, Err, arith, rules, true, false}
use Rattle.std.proofs.lemmas.Grind.{common_steps}
use Rattle.file_ports.specs.declared.stop.FileStop.TheVariants.{TreeFault}
use Rattle.file_ports.proofs.ChangeLemmas.{WritesAt, writes_at, write-changes, write-acted}
use Rattle.file_ports.proofs.device.FileDevice.write.Given.{Over}
use Rattle.file_ports.proofs.device.FileDevice.write.Goals.{After-add}
use Rattle.file_ports.proofs.device.FileDevice.write.Goals as goal

writes : (g : Over) (c : After-add g)
    → WritesAt c.args.at c.args.length c.args.memory.now c.args.self.now c.in-Some.path c.is_writing-is_writing.result c.slice-piece.result.now
writes g c =
    writes_at c.args.at c.args.length _ c.args.memory.now c.args.self.now c.self.inside.path c.self.inside.mode c.in-Some.path _ _
    c.self.view_is c.in-Some.is c.is_writing-is_writing.ensures c.of-span.ensures.1 (rw c.of-span.ensures.0 at c.slice-piece.ensures)

pub returns-in_err-add-in-Some-clause-tree : goal.returns-in_err-add-in-Some-clause-tree
returns-in_err-add-in-Some-clause-tree g c =
    let result : c.from_residual.result ≡ Err TreeFault = search rules in
    rw result (write-changes c.args.at c.args.length c.args.keep _ true c.in-Some.path _ c.args.memory.now c.args.self.now _ _
    (writes g (goal.at.returns-in_err-add-in-Some-clause-tree g c).After-add) c.in_err-add-in-Some.ensures.tree)

pub returns-then-not-branch-clause-tree : goal.returns-then-not-branch-clause-tree
returns-then-not-branch-clause-tree g c =
    write-changes c.args.at c.args.length c.args.keep _ false c.in-Some.path _ c.args.memory.now c.args.self.now _ _
    (writes g (goal.at.returns-then-not-branch-clause-tree g c).After-add) c.in_ok-add-in-Some.ensures.tree

pub returns-else-not-branch-clause-tree : goal.returns-else-not-branch-clause-tree
returns-else-not-branch-clause-tree g c =
    write-changes c.args.at c.args.length c.args.keep _ false c.in-Some.path _ c.args.memory.now c.args.self.now _ _
    (writes g (goal.at.returns-else-not-branch-clause-tree g c).After-add) c.in_ok-add-in-Some.ensures.tree

pub returns-then-not-branch-clause-acted : goal.returns-then-not-branch-clause-acted
returns-then-not-branch-clause-acted g c =
    write-acted c.args.at c.args.length c.args.keep _ _ false c.in-Some.path _ c.args.memory.now c.args.self.now _ _
    (writes g (goal.at.returns-then-not-branch-clause-acted g c).After-add) c.in-Some.is c.if-not-branch.true c.in_ok-add-in-Some.ensures.begun

pub returns-else-not-branch-clause-acted : goal.returns-else-not-branch-clause-acted
returns-else-not-branch-clause-acted g c =
    write-acted c.args.at c.args.length c.args.keep _ _ true c.in-Some.path c.slice-piece.result.now c.args.memory.now c.args.self.now _ _
    (writes g (goal.at.returns-else-not-branch-clause-acted g c).After-add) c.in-Some.is c.if-not-branch.false c.in_ok-add-in-Some.ensures.begun

pub overflow_cast-result : goal.overflow_cast-result
overflow_cast-result g c = grind (arith, common_steps)
