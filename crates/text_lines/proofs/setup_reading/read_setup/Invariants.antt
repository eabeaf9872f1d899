use Rattle.std.proofs.Common.{length}
use Rattle.text_lines.proofs.SetupStepping.{Standing}
use Rattle.text_lines.proofs.setup_reading.read_setup.Given as goal

abbrev pub invariant-loop-line : goal.invariant-loop-line
invariant-loop-line l = Standing l.text l.lines l.gathered

abbrev pub decreases-loop-line : goal.decreases-loop-line
decreases-loop-line l = length l.lines.left
