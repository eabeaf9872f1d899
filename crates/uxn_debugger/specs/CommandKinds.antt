-- The names of what can be wrong with a line of commands, as they are printed (profile).
use Rattle.std.specs.Prelude.{ℕ, List, codes}
use Rattle.uxn_debugger.specs.declared.command.CommandKind.{CommandKind}
use Rattle.uxn_debugger.specs.declared.command.CommandKind.TheVariants as kind

abbrev pub command_kind_name : CommandKind → List ℕ
command_kind_name kind.Unknown = codes "Unknown"
command_kind_name kind.BadValue = codes "BadValue"
command_kind_name kind.NoSuchLabel = codes "NoSuchLabel"
command_kind_name kind.Missing = codes "Missing"
command_kind_name kind.Extra = codes "Extra"
command_kind_name kind.ManyCommands = codes "ManyCommands"
command_kind_name kind.LongCommands = codes "LongCommands"
