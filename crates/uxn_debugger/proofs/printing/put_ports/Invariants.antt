use Rattle.std.proofs.Common.{◌≡◌, ◌++◌, get_or}
use Rattle.std.specs.List.{flat_map, range_with_len}
use Rattle.uxn_io_traits.specs.NumberText.{hex_of_byte}
use Rattle.vector_loop.specs.Watch.{Page, IsPage}
use Rattle.uxn_debugger.specs.Printing.{in_lines}
use Rattle.uxn_debugger.specs.Scenes.{view_in}
use Rattle.uxn_debugger.proofs.printing.put_ports.Given as goal

abbrev pub invariant-loop-at : goal.invariant-loop-at
invariant-loop-at g l = (page : Page) → IsPage (g.P.Ports.rules.reads l.ports l.scene.core.now) (g.P.Ports.stored l.ports) page
    → l.log.items ≡ l.initial.log.items
    ++ flat_map (in_lines hex_of_byte (λ at. get_or (view_in l.scene page.read).page at 0) 256) (range_with_len 0 l.at)
