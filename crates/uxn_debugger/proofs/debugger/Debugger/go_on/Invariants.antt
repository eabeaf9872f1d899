use Rattle.std.proofs.Common.{◌≡◌, ◌≤◌, ◌-◌, length}
use Rattle.vector_loop.specs.Watch.{Page, IsPage}
use Rattle.uxn_debugger.specs.Printing.{view}
use Rattle.uxn_debugger.specs.Watching.{KeptNone, done, held_by}
use Rattle.uxn_debugger.proofs.debugger.Debugger.go_on.Given as goal

abbrev pub invariant-loop-command : goal.invariant-loop-command
invariant-loop-command g l = record {
  kept : KeptNone (held_by l.initial.self) (held_by l.self);
  under : l.back ≤ length (held_by l.self).undo;
  rest : (page : Page) → IsPage (g.P.Ports.rules.reads l.ports l.core) (g.P.Ports.stored l.ports) page
      → done (view l.core page.read l.place) l.back (held_by l.self).commands (held_by l.self)
      ≡ done (view l.core page.read l.place) 0 (held_by l.initial.self).commands (held_by l.initial.self);
}

abbrev pub decreases-loop-command : goal.decreases-loop-command
decreases-loop-command g l = length l.self.commands.items - l.self.next
