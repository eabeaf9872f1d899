use Rattle.std.proofs.Common.{arith}
use Rattle.std.proofs.lemmas.Grind.{common_steps}
use Rattle.text_lines.specs.Scripts.{script_of}
use Rattle.text_lines.proofs.ScriptStepping.{go_on}
use Rattle.text_lines.proofs.script_reading.read_script.Goals as goal

pub loop-line-preserved : goal.loop-line-preserved
loop-line-preserved c =
    go_on c.args.text.now c.in-Some.line.now c.loop-line.lines c.next_line.new.self c.loop-line.gathered c.take_line.new.self c.in-Ok.field-0
    c.loop-line.invariant c.in-Some.ensures.left c.in-Some.ensures.number c.next_line.ensures.size c.in-Ok.ensures

pub returns-then-text-gt-TEXT_LIMIT : goal.returns-then-text-gt-TEXT_LIMIT
unfolding script_of
returns-then-text-gt-TEXT_LIMIT c = grind (arith, common_steps)

pub returns-in-Err : goal.returns-in-Err
unfolding script_of
returns-in-Err c = grind (arith, common_steps)

pub returns : goal.returns
unfolding script_of
returns c = grind (arith, common_steps)
