-- The names of what can be wrong with a line of a setup, as they are printed (profile).
use Rattle.std.specs.Prelude.{ℕ, List, codes}
use Rattle.text_lines.specs.declared.setup.SetupKind.{SetupKind}
use Rattle.text_lines.specs.declared.setup.SetupKind.TheVariants as kind

abbrev pub setup_kind_name : SetupKind → List ℕ
setup_kind_name kind.Unknown = codes "Unknown"
setup_kind_name kind.Missing = codes "Missing"
setup_kind_name kind.Extra = codes "Extra"
setup_kind_name kind.BadValue = codes "BadValue"
setup_kind_name kind.Twice = codes "Twice"
setup_kind_name kind.ManyMachines = codes "ManyMachines"
setup_kind_name kind.NoMachine = codes "NoMachine"
setup_kind_name kind.ManyTurns = codes "ManyTurns"
setup_kind_name kind.FewMachines = codes "FewMachines"
setup_kind_name kind.LongSetup = codes "LongSetup"
