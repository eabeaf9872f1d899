-- Reading words against its definition.
use Rattle.std.specs.Prelude.{◌≡◌, Result, Ok, Err}
use Rattle.uxn_arguments.specs.declared.words.WordFault.{WordFault}
use Rattle.uxn_arguments.specs.declared.words.WordStop.{WordStop}
use Rattle.uxn_arguments.specs.declared.words.WordStop.TheVariants.{Refused, NoMemory}

-- a step answers as its definition says, unless memory runs out
abbrev pub ReadsArguments : {A : Type 0} → Result A WordStop → Result A WordFault → Type 0
ReadsArguments (Ok value) said = said ≡ Ok value
ReadsArguments (Err (Refused fault)) said = said ≡ Err fault
ReadsArguments (Err NoMemory) said = Unit {0}
