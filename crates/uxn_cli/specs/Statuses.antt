-- What a status says: the exit code of what was done, why the call was refused, or what ended it early.
use Rattle.std.specs.Prelude.{◌≡◌, ℕ, Result, Err}
use Rattle.uxn_opcodes.specs.declared.Stop.{Stop}
use Rattle.uxn_opcodes.specs.declared.Stop.TheVariants.{TreeFault, SinkFault, NoMemory}
use Rattle.uxn_cli.specs.declared.task_files.refusal.Refusal.{Refusal}
use Rattle.uxn_cli.specs.declared.task_files.refusal.Refusal.TheVariants.{NotUnderstood, NoPath, NoOutput, Missing, Faulty, LongRom}
use Rattle.uxn_cli.specs.declared.task_files.refusal.Refusal.TheVariants.{BadSymbols, BadScript, BadCommands, BadSetup, OtherEvents}

-- the status of each refusal
abbrev pub status_of : Refusal → ℕ
status_of NotUnderstood = 128
status_of (NoPath word) = 129
status_of (Missing path) = 130
status_of (Faulty fault) = 131
status_of (BadScript number kind) = 132
status_of (BadCommands number kind) = 133
status_of (LongRom length) = 134
status_of (BadSymbols entry kind) = 134
status_of (NoOutput path) = 135
status_of (BadSetup number kind) = 139
status_of OtherEvents = 139

-- and of each early end; else it is an exit code, 0 to 127
abbrev pub early_status : Stop → ℕ
early_status TreeFault = 136
early_status SinkFault = 137
early_status NoMemory = 138

-- a fault of the tree, a fault of a sink, or running out of memory ended the call early
abbrev pub IsEarly : ℕ → Type 0
IsEarly answer = (stop : Stop) × (answer ≡ early_status stop)

-- the call was refused
abbrev pub IsRefusing : ℕ → Type 0
IsRefusing answer = (refusal : Refusal) × (answer ≡ status_of refusal)

-- what was found is a refusal with this status
abbrev pub IsRefusedWith : {A : Type 0} → ℕ → Result A Refusal → Type 0
IsRefusedWith status found = (refusal : Refusal) × (found ≡ Err refusal) × (status_of refusal ≡ status)
