use Rattle.std.proofs.Common.{length}
use Rattle.text_lines.proofs.ScriptStepping.{Standing}
use Rattle.text_lines.proofs.script_reading.read_script.Given as goal

abbrev pub invariant-loop-line : goal.invariant-loop-line
invariant-loop-line l = Standing l.text l.lines l.gathered

abbrev pub decreases-loop-line : goal.decreases-loop-line
decreases-loop-line l = length l.lines.left
