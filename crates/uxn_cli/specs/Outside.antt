-- What is outside, as a host borrows it, and what the work of a task does to it.
use Rattle.std.specs.Prelude.{◌≡◌, ℕ, Result, IfSome}
use Rattle.uxn_io_traits.specs.Faults.{Ledger}
use Rattle.uxn_io_traits.specs.State.{TreeState, SinkState, Outside, outside}
use Rattle.uxn_io_traits.specs.Taking.{WasNotGuaranteed}
use Rattle.uxn_io_traits.specs.declared.sinks.Sink as sinks
use Rattle.uxn_io_traits.specs.declared.trees.Tree as trees
use Rattle.uxn_arguments.specs.declared.task.Task.{Task}
use Rattle.uxn_cli.specs.declared.task_files.refusal.Refusal.{Refusal}
use Rattle.uxn_cli.specs.declared.task_files.refusal.Halt.{Halt}
use Rattle.uxn_cli.specs.Answer.{Performs}
use Rattle.uxn_cli.specs.Blame.{OnRefused, result_blame}
use Rattle.uxn_cli.specs.Causes.{tree_verdict}
use Rattle.uxn_cli.specs.Refused.{CountsRefusals}
use Rattle.uxn_cli.specs.Outcome.{outcome_of}
use Rattle.uxn_cli.specs.declared.host.Host.{Host}

-- what contracts see of a host: of its tree and of its two sinks
pub record HostState : Type 0 where
  pub tree : TreeState
  pub out : SinkState
  pub err : SinkState

abbrev pub host_state : TreeState → SinkState → SinkState → HostState
host_state tree out err = record { tree = tree; out = out; err = err }

abbrev pub state_of_host : {T O E : Type 0} → trees.Ghosts T → sinks.Ghosts O → sinks.Ghosts E → Host T O E → HostState
state_of_host of_tree of_out of_err host =
    host_state (of_tree.state host.tree.now) (of_out.state host.out.now) (of_err.state host.err.now)

-- what is outside then
abbrev pub observed_outside : HostState → Outside
observed_outside state = outside state.tree state.out state.err

abbrev pub outside_of : {T O E : Type 0} → trees.Ghosts T → sinks.Ghosts O → sinks.Ghosts E → Host T O E → Outside
outside_of of_tree of_out of_err host = observed_outside (state_of_host of_tree of_out of_err host)

-- it borrows the same three as before
pub record SameHost {T O E : Type 0} (before now : Host T O E) : Type 0 where
  pub tree : now.tree.ghost_name ≡ before.tree.ghost_name
  pub out : now.out.ghost_name ≡ before.out.ghost_name
  pub err : now.err.ghost_name ≡ before.err.ghost_name

-- what was asked is done, is refused, or ended early; whoever is to blame counted a fault, and was not guaranteed to suffice; no call of
-- `create` that was refused is ignored; and what is refused puts nothing on the error output yet
pub record DoesWork (requested : Result Task Refusal) (before now : HostState) (result : Result ℕ Halt) : Type 0 where
  pub performs : Performs requested (observed_outside before).world (observed_outside now).world result
  pub ledger : Ledger (observed_outside before).faults (observed_outside now).faults (result_blame result)
  pub guaranteed : IfSome before.tree.contents (λ nodes. WasNotGuaranteed (result_blame result) (observed_outside before).guaranteed
      before.tree.contents (outcome_of before.tree.contents (tree_verdict nodes requested)).changes)
  pub refusals : CountsRefusals requested before.tree now.tree before.err now.err result
  pub kept : OnRefused result (now.err ≡ before.err)
