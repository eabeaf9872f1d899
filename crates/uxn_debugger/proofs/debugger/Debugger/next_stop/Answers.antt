use Rattle.std.proofs.Common.{sym, ◌∙◌, arith, rules}
use Rattle.uxn_debugger.specs.Watching.{held_by}
use Rattle.uxn_debugger.proofs.Turns.{next_stop-later}
use Rattle.uxn_debugger.proofs.debugger.Debugger.next_stop.Goals as goal

pub loop-less-preserved : goal.loop-less-preserved
loop-less-preserved c =
    let held = held_by c.args.self.now in
    let later = next_stop-later held.breaks held.undo c.args.place c.in-Some.less (sym c.is_stop.ensures ∙ c.if-is_stop.false) in
    search (arith, rules, later)
