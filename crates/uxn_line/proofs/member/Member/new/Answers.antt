use Rattle.uxn_line.proofs.Common.{arith}
use Rattle.uxn_line.proofs.member.Member.new.Goals as goal

pub returns-clause-stands : goal.returns-clause-stands
returns-clause-stands c script begins = record {
  stands = c.in_ok-machine.ensures script begins.arguments_are begins.clock_is;
  given = begins.given;
  state = λ idle. absurd (omega (arith, idle, c.requires.some));
}
