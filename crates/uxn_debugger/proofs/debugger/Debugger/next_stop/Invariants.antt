use Rattle.std.proofs.Common.{◌≡◌, ◌≤◌}
use Rattle.uxn_debugger.specs.Watching.{next_stop, held_by}
use Rattle.uxn_debugger.proofs.debugger.Debugger.next_stop.Given as goal

abbrev pub invariant-loop-less : goal.invariant-loop-less
invariant-loop-less l = record {
  rest : next_stop (held_by l.self).breaks (held_by l.self).undo l.place l.left
      ≡ next_stop (held_by l.self).breaks (held_by l.self).undo l.place l.back;
  under : l.left ≤ l.back;
}

abbrev pub decreases-loop-less : goal.decreases-loop-less
decreases-loop-less l = l.left
