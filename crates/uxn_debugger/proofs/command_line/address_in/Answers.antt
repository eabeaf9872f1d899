use Rattle.std.proofs.Common.{arith}
use Rattle.std.proofs.lemmas.Grind.{common_steps}
use Rattle.uxn_debugger.specs.CommandLines.{address_in}
use Rattle.uxn_debugger.proofs.command_line.address_in.Goals as goal

pub returns-then-not-begins_with : goal.returns-then-not-begins_with
unfolding address_in
returns-then-not-begins_with c = grind (arith, common_steps)

pub returns-in-Some-address_of : goal.returns-in-Some-address_of
unfolding address_in
returns-in-Some-address_of c = grind (arith, common_steps)

pub returns-in-None : goal.returns-in-None
unfolding address_in
returns-in-None c = grind (arith, common_steps)
