-- Who is to blame where a call ended early, and the status that says so.
use Rattle.std.specs.Prelude.{ℕ, ◌==◌, Bool, true, false, Result, Ok, Err, if◌then◌else◌}
use Rattle.uxn_io_traits.specs.Faults.{Blame, Nobody, TheTree, ASink}
use Rattle.uxn_io_traits.specs.declared.halt.Halt.{Halt as InquiryHalt}
use Rattle.uxn_io_traits.specs.declared.halt.Halt.TheVariants.{Refused as Denied, TreeFault as TreeFailed, NoMemory as OutOfMemory}
use Rattle.uxn_cli.specs.declared.task_files.refusal.Refusal.{Refusal}
use Rattle.uxn_opcodes.specs.declared.Stop.{Stop}
use Rattle.uxn_opcodes.specs.declared.Stop.TheVariants.{TreeFault, SinkFault, NoMemory}
use Rattle.uxn_cli.specs.declared.task_files.refusal.Halt.{Halt}
use Rattle.uxn_cli.specs.declared.task_files.refusal.Halt.TheVariants.{Refused, Stopped}

abbrev pub stop_blame : Stop → Blame
stop_blame TreeFault = TheTree
stop_blame SinkFault = ASink
stop_blame NoMemory = Nobody

-- of a step that may be refused
abbrev pub halt_blame : Halt → Blame
halt_blame (Refused refusal) = Nobody
halt_blame (Stopped stop) = stop_blame stop

abbrev pub result_blame : {A : Type 0} → Result A Halt → Blame
result_blame (Ok value) = Nobody
result_blame (Err halt) = halt_blame halt

-- whether the tree failed in it
abbrev pub is_of_tree : Blame → Bool
is_of_tree Nobody = false
is_of_tree TheTree = true
is_of_tree ASink = false

abbrev pub halted_by_tree : {A : Type 0} → Result A Halt → Bool
halted_by_tree result = is_of_tree (result_blame result)

-- a call that may stop is a step that is not refused
abbrev pub as_step : {A : Type 0} → Result A Stop → Result A Halt
as_step (Ok value) = Ok value
as_step (Err stop) = Err (Stopped stop)

-- of a status
abbrev pub status_blame : ℕ → Blame
status_blame status = if status == 136 then TheTree else if status == 137 then ASink else Nobody

-- this holds where a step is refused
abbrev pub OnRefused : {A : Type 0} → Result A Halt → Type 0 → Type 0
OnRefused (Ok value) P = Unit {0}
OnRefused (Err (Refused refusal)) P = P
OnRefused (Err (Stopped stop)) P = Unit {0}

-- a call that asks a tree
abbrev pub halt_of_inquiry : InquiryHalt Refusal → Halt
halt_of_inquiry (Denied refusal) = Refused refusal
halt_of_inquiry TreeFailed = Stopped TreeFault
halt_of_inquiry OutOfMemory = Stopped NoMemory
