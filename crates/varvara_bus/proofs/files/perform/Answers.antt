use Rattle.std.proofs.Common.{refl, []}
use Rattle.uxn_io_traits.specs.CallLaws.{ended-as}
use Rattle.uxn_io_traits.specs.EndedLaws.{looked-ended}
use Rattle.file_ports.specs.Actions.{Read, Write, Stat, Delete}
use Rattle.varvara_bus.proofs.FileCalls.{performs, goes-on, stat-changes, read-changes}
use Rattle.varvara_bus.proofs.files.perform.Goals as goal

pub returns-in-Stat-clause-tree : goal.returns-in-Stat-clause-tree
returns-in-Stat-clause-tree g c =
    rw c.in-Stat.is (ended-as [] _ _ _ _ (stat-changes c.in-Stat.at c.in-Stat.length _ c.args.device.now c.args.memory.now)
    (looked-ended _ _ _ c.stat.ensures.tree))

pub returns-in-Read-clause-tree : goal.returns-in-Read-clause-tree
returns-in-Read-clause-tree g c =
    rw c.in-Read.is (ended-as [] _ _ _ _ (read-changes c.in-Read.at c.in-Read.length _ c.args.device.now c.args.memory.now)
    (looked-ended _ _ _ c.read.ensures.tree))

pub returns-in-Stat-clause-acted : goal.returns-in-Stat-clause-acted
returns-in-Stat-clause-acted g c =
    rw c.in-Stat.is (performs (Stat c.in-Stat.at c.in-Stat.length) c.args.root c.args.device.now c.args.memory.now _ c.stat.result _ _ (λ observed. refl) c.requires c.stat.ensures.acted)

pub returns-in-Read-clause-acted : goal.returns-in-Read-clause-acted
returns-in-Read-clause-acted g c =
    rw c.in-Read.is (performs (Read c.in-Read.at c.in-Read.length) c.args.root c.args.device.now c.args.memory.now _ c.read.result _ _ (λ observed. refl) c.requires c.read.ensures.acted)

pub returns-in-Write-clause-acted : goal.returns-in-Write-clause-acted
returns-in-Write-clause-acted g c =
    rw c.in-Write.is (performs (Write c.in-Write.at c.in-Write.length c.in-Write.keep) c.args.root c.args.device.now c.args.memory.now _ c.write.result _ _ (λ observed. refl) c.requires c.write.ensures.acted)

pub returns-in-Delete-clause-acted : goal.returns-in-Delete-clause-acted
returns-in-Delete-clause-acted g c =
    rw c.in-Delete.is (performs Delete c.args.root c.args.device.now c.args.memory.now _ c.delete.result _ _ (λ observed. refl) c.requires (c.delete.ensures.acted c.args.memory.now))

pub returns-in-Delete-clause-suits : goal.returns-in-Delete-clause-suits
returns-in-Delete-clause-suits g c =
    goes-on Delete c.args.root c.args.device.now c.args.memory.now _ c.delete.result _ _ c.requires (c.delete.ensures.acted c.args.memory.now)
