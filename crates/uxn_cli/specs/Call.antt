-- A call of the program: its words, what stands outside before it and after it, and the status that it gives.
use Rattle.std.specs.Prelude.{ℕ, List, map, String, string_bytes, Result, Ok, Err, IfSome}
use Rattle.uxn_io_traits.specs.declared.sinks.Sink as sink
use Rattle.uxn_io_traits.specs.declared.trees.Tree as tree
use Rattle.uxn_opcodes.specs.declared.Stop.{Stop}
use Rattle.uxn_arguments.specs.declared.task.Task.{Task}
use Rattle.uxn_cli.specs.declared.task_files.refusal.Refusal.{Refusal}
use Rattle.uxn_cli.specs.Causes.{tree_verdict}
use Rattle.uxn_cli.specs.declared.host.Host.{Host}
use Rattle.uxn_io_traits.specs.State.{Outside, outside}
use Rattle.uxn_cli.specs.Request.{request}
use Rattle.uxn_cli.specs.Statuses.{early_status}
use Rattle.uxn_cli.specs.Verdict.{Work}

pub record Call : Type 0 where
  pub words : List (List ℕ)
  pub before : Outside
  pub now : Outside
  pub status : ℕ

-- the call with these words over these objects, as they were and as they are, with this status
abbrev pub call : {T O E Z : Type 0} → tree.Ghosts T → sink.Ghosts O → sink.Ghosts E → List (String Z)
    → T → O → E → T → O → E → ℕ → Call
call of_tree of_out of_err words files out err files_now out_now err_now status = record {
  words = map string_bytes words;
  before = outside (of_tree.state files) (of_out.state out) (of_err.state err);
  now = outside (of_tree.state files_now) (of_out.state out_now) (of_err.state err_now);
  status = status;
}

-- the same over a host, as it was and as it is
abbrev pub call_on : {T O E Z : Type 0} → tree.Ghosts T → sink.Ghosts O → sink.Ghosts E → List (String Z)
    → Host T O E → Host T O E → ℕ → Call
call_on of_tree of_out of_err words before now status =
    call of_tree of_out of_err words before.tree.now before.out.now before.err.now now.tree.now now.out.now now.err.now status

-- what its words ask for
abbrev pub call_request : Call → Result Task Refusal
call_request c = request c.words

-- this holds of the verdict on its words and on what the tree shows them, where the contents are known
abbrev pub OfVerdict : Call → (Result Work Refusal → Type 0) → Type 0
OfVerdict c P = IfSome c.before.world.files (λ nodes. P (tree_verdict nodes (call_request c)))

-- the status of a call that may have stopped
abbrev pub step_status : Result ℕ Stop → ℕ
step_status (Ok status) = status
step_status (Err stop) = early_status stop
