use Rattle.std.proofs.Common.{◌≡◌, ◌+◌, ◌≤◌, [], length}
use Rattle.uxn_limits.specs.declared.limits.TheConstants.{MOST_COMMANDS}
use Rattle.text_lines.specs.Lines.{lines_of}
use Rattle.text_lines.specs.Reading.{given, each_line}
use Rattle.uxn_debugger.specs.CommandLines.{command_line_of}
use Rattle.uxn_debugger.specs.CommandTexts.{command_fault}
use Rattle.uxn_debugger.proofs.reading.commands_by.Given as goal

abbrev pub invariant-loop-line : goal.invariant-loop-line
invariant-loop-line l = record {
  rest : given command_fault (l.lines.number + 1) l.commands.items (each_line (command_line_of l.labels) l.lines.left) ≡ given command_fault 1 [] (each_line (command_line_of l.labels) (lines_of l.text));
  few : length l.commands.items ≤ MOST_COMMANDS;
}

abbrev pub decreases-loop-line : goal.decreases-loop-line
decreases-loop-line l = length l.lines.left
