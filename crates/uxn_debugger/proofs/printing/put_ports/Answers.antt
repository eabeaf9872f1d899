use Rattle.std.proofs.Common.{◌++◌, ap, ◌∙◌, get_or, refl, arith}
use Rattle.uxn_io_traits.specs.NumberText.{hex_of_byte}
use Rattle.uxn_debugger.specs.Printing.{in_lines}
use Rattle.uxn_debugger.specs.Scenes.{view_in}
use Rattle.uxn_debugger.proofs.Tables.{part_put, table_at}
use Rattle.uxn_debugger.proofs.printing.put_ports.Goals as goal

pub loop-at-preserved : goal.loop-at-preserved
loop-at-preserved g c page is_page =
    part_put (in_lines hex_of_byte (λ at. get_or (view_in c.args.scene.now page.read).page at 0) 256) c.loop-at.at _ _ _ _
    (c.loop-at.invariant page is_page) c.in_ok-put_cell.ensures
    (rw (c.hex_byte.ensures, c.port.ensures page is_page) refl)

pub returns : goal.returns
returns g c page is_page =
    c.loop-at.invariant page is_page
    ∙ ap (λ more. c.args.log.now.items ++ more)
    (table_at hex_of_byte (λ at. get_or (view_in c.args.scene.now page.read).page at 0) 256 c.loop-at.at (omega arith))
