-- What one more line changes.
use Rattle.std.specs.Prelude.{nat_lt, if◌then◌else◌, [], ◌∷◌, ◌++◌, length, Option, Some, None, Result, Ok, Err}
use Rattle.uxn_limits.specs.declared.limits.TheConstants.{FEWEST_MACHINES}
use Rattle.text_lines.specs.Reading.{Line}
use Rattle.text_lines.specs.declared.setup.SetupKind.{SetupKind}
use Rattle.text_lines.specs.declared.setup.SetupKind.TheVariants.{FewMachines}
use Rattle.text_lines.specs.declared.stop.TextStop.{TextStop}
use Rattle.text_lines.specs.declared.stop.TextStop.TheVariants.{Refused}
use Rattle.text_lines.specs.declared.setup_line.SetupLine.{SetupLine}
use Rattle.text_lines.specs.declared.setup_line.SetupLine.TheVariants.{Machine, Script, Budget, Turn}
use Rattle.text_lines.specs.Setups.{SetupView, setup_gathering_fault}

-- a line that was validated by itself, behind those that gave this
abbrev pub unless : SetupLine → Option SetupKind → Line SetupLine SetupKind
unless line None = Ok (Some line)
unless line (Some kind) = Err kind

abbrev pub validated : SetupView → Line SetupLine SetupKind → Line SetupLine SetupKind
validated before (Ok (Some line)) = unless line (setup_gathering_fault before line)
validated before (Ok None) = Ok None
validated before (Err kind) = Err kind

-- what the lines gave with one more
abbrev pub grown : SetupView → SetupLine → SetupView
grown before (Machine path) = record before { sources = before.sources ++ path ∷ [] }
grown before (Script path) = record before { script = Some path }
grown before (Budget number) = record before { budget = Some number }
grown before (Turn turns) = record before { schedule = before.schedule ++ turns ∷ [] }

-- the setup of all lines
abbrev pub finished_setup : SetupView → Result SetupView (TextStop SetupKind)
finished_setup all = if nat_lt (length all.sources) FEWEST_MACHINES then Err (Refused 1 FewMachines) else Ok all
