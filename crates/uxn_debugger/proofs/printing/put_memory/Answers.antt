use Rattle.std.proofs.Common.{ap, ◌∙◌, ◌++◌, ◌+◌, ◌%◌, refl, arith}
use Rattle.uxn_io_traits.specs.NumberText.{hex_of_short}
use Rattle.uxn_debugger.specs.Scenes.{view_in}
use Rattle.uxn_debugger.proofs.Tables.{part_put, table_at}
use Rattle.uxn_debugger.proofs.printing.put_memory.Goals as goal

pub loop-at-preserved : goal.loop-at-preserved
loop-at-preserved c page =
    part_put _ c.loop-at.at _ _ _ _ (c.loop-at.invariant page) c.in_ok-put_cell.ensures (rw (c.hex_short.ensures, c.byte.ensures page) refl)

pub returns : goal.returns
returns c page =
    c.loop-at.invariant page
    ∙ ap (λ more. c.args.log.now.items ++ more)
    (table_at (λ at. hex_of_short ((c.args.address + at) % 65536)) (λ at. (view_in c.args.scene.now page).byte ((c.args.address + at) % 65536)) c.args.count c.loop-at.at (omega arith))
