use Rattle.uxn_line.proofs.Common.{common_steps, arith, slice_get_read, ◌≡◌, ◌-◌, length, refl, ap, ◌∙◌, last_machine}
use Rattle.system_port.specs.DebugText.{exit_code_of}
use Rattle.uxn_line.proofs.line.Line.exit_code.Goals as goal

pub returns-then-count-eq0 : goal.returns-then-count-eq0
returns-then-count-eq0 c = grind (arith, common_steps)

pub returns : goal.returns
returns c job turned stands idle =
    let items = c.args.self.now.members.items in
    let last : c.len-count.result - 1 ≡ last_machine job = omega (arith, c.len-count.ensures, c.args.self.now.members.ok.0) in
    let there = slice_get_read items (length items) (last_machine job) c.index.result.now refl
    (omega (arith, c.if-count-eq0.false, c.len-count.ensures, c.args.self.now.members.ok.0)) (rw last at c.index.ensures) in
    c.exit_code.ensures ∙ ap exit_code_of ((stands.each (last_machine job) c.index.result.now there).stands.state idle)
