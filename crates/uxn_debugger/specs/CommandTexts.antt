-- The commands of a text, or its first faulty line (profile).
use Rattle.std.specs.Prelude.{ℕ, ◌+◌, nat_lt, List, length, Option, Result}
use Rattle.uxn_limits.specs.declared.limits.TheConstants.{TEXT_LIMIT, MOST_COMMANDS}
use Rattle.text_lines.specs.Reading.{fault_if, text_by}
use Rattle.tal_words.specs.declared.name.Label.{Label}
use Rattle.uxn_debugger.specs.declared.command.DebugCommand.{DebugCommand}
use Rattle.uxn_debugger.specs.declared.command.CommandKind.{CommandKind}
use Rattle.uxn_debugger.specs.declared.command.CommandKind.TheVariants.{ManyCommands, LongCommands}
use Rattle.uxn_debugger.specs.CommandLines.{command_line_of}

-- what is wrong with a line behind these commands: with its own there are too many
abbrev pub command_fault : List DebugCommand → DebugCommand → Option CommandKind
command_fault before command = fault_if (nat_lt MOST_COMMANDS (length before + 1)) ManyCommands

-- the commands of a text, or its first faulty line and the first fault there
unfoldable pub commands_of_text : List Label → List ℕ → Result (List DebugCommand) (ℕ × CommandKind)
commands_of_text labels text = text_by TEXT_LIMIT LongCommands command_fault (command_line_of labels) text
