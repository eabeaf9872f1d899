use Rattle.std.proofs.Common.{false, refl, rules, sym, ◌∙◌, ◌≡◌, ℕ}
use Rattle.std.specs.Prelude.{Err}
use Rattle.file_ports.specs.declared.stop.FileStop.TheVariants.{TreeFault, NoMemory}
use Rattle.file_ports.specs.declared.stop.FileStop.{FileStop}
use Rattle.file_ports.specs.AnswersAction.{has_failed}
use Rattle.uxn_opcodes.specs.declared.Stop.TheVariants as stops
use Rattle.varvara_bus.specs.FileCalls.{action_requested, stop_of, stopped_by_tree}
use Rattle.varvara_bus.proofs.FileCalls.{file-ended, file-acted, files-stay, file-left, wants-read}
use Rattle.varvara_bus.proofs.files.act_on_file.Goals as goal

-- a stop of a file device is one of its tree, or of memory, as that of the port
tree-stops : (stop : FileStop) → has_failed {T = ℕ} (Err stop) ≡ stopped_by_tree (Err (stop_of stop))
tree-stops TreeFault = refl
tree-stops NoMemory = refl

memory-stops : (stop : FileStop) → stop_of stop ≡ stops.NoMemory → stop ≡ NoMemory
memory-stops TreeFault is = cc
memory-stops NoMemory is = refl

pub returns-in-Ok-clause-tree : goal.returns-in-Ok-clause-tree
returns-in-Ok-clause-tree g c state stands has =
    file-ended c.requested-request.result c.args.number c.args.act c.args.devices.now state c.args.memory.now false _ _
    (rw c.base.ensures.base at (c.requested-request.ensures.action state stands)) stands has c.in-Ok.ensures.tree

pub returns-in-Ok-clause-acted : goal.returns-in-Ok-clause-acted
returns-in-Ok-clause-acted g c state stands has =
    file-acted c.requested-request.result c.args.number c.args.act c.args.devices.now c.perform_on.new.devices _ state c.args.memory.now _ c.in-Ok.success _
    (rw c.base.ensures.base at (c.requested-request.ensures.action state stands)) stands has c.in-Ok.ensures.acted (c.perform_on.ensures.stands state stands)
    (rw c.base-in-Ok.ensures.base at c.store_short.ensures.stands)

pub returns-in-Ok-clause-stay : goal.returns-in-Ok-clause-stay
returns-in-Ok-clause-stay g c =
    files-stay (action_requested c.requested-request.result) c.args.number c.args.devices.now c.args.memory.now false _ _ c.in-Ok.ensures.tree

pub returns-in-Err-clause-tree : goal.returns-in-Err-clause-tree
returns-in-Err-clause-tree g c state stands has =
    rw c.stop_of.ensures (file-ended c.requested-request.result c.args.number c.args.act c.args.devices.now state c.args.memory.now _ _ _
    (rw c.base.ensures.base at (c.requested-request.ensures.action state stands)) stands has
    (rw (tree-stops c.in-Err.stop) at c.in-Err.ensures.tree))

pub returns-in-Err-clause-acted : goal.returns-in-Err-clause-acted
returns-in-Err-clause-acted g c =
    let stopped = c.in-Err.ensures.acted in
    record {
      cause = c.in-Err.stop;
      is = c.stop_of.ensures;
      left = λ state stands.
          let action = rw c.base.ensures.base at (c.requested-request.ensures.action state stands) in
          file-left c.requested-request.result c.args.number c.args.act c.args.devices.now c.perform_on.new.devices state c.args.memory.now _ _ _ action stands
          (c.perform_on.ensures.stands state stands) stopped;
      page = c.perform_on.ensures.page;
      rooted = search rules;
      wants = λ is.
          let read = wants-read c.requested-request.result _ _ (stopped.wants (memory-stops c.in-Err.stop (sym c.stop_of.ensures ∙ is))) in
          (sym c.requested-request.ensures.act ∙ read.0, record { named = stopped.named; names = read.1 });
    }

pub returns-in-Err-clause-stay : goal.returns-in-Err-clause-stay
returns-in-Err-clause-stay g c =
    files-stay (action_requested c.requested-request.result) c.args.number c.args.devices.now c.args.memory.now _ _ _ c.in-Err.ensures.tree
