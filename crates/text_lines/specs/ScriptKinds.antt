-- The names of what can be wrong with a line of a script, as they are printed (profile).
use Rattle.std.specs.Prelude.{ℕ, List, codes}
use Rattle.text_lines.specs.declared.script.ScriptKind.{ScriptKind}
use Rattle.text_lines.specs.declared.script.ScriptKind.TheVariants as kind

abbrev pub script_kind_name : ScriptKind → List ℕ
script_kind_name kind.Unknown = codes "Unknown"
script_kind_name kind.BadValue = codes "BadValue"
script_kind_name kind.Missing = codes "Missing"
script_kind_name kind.Extra = codes "Extra"
script_kind_name kind.Late = codes "Late"
script_kind_name kind.ManyEvents = codes "ManyEvents"
script_kind_name kind.LongScript = codes "LongScript"
