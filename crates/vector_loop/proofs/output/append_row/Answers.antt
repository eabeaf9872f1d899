use Rattle.vector_loop.proofs.Common.{ap, arith, length, sym, ◌≤◌}
use Rattle.vector_loop.proofs.Makings.{made-where, row-taken, to_file}
use Rattle.vector_loop.proofs.output.append_row.Goals as goal

pub returns : goal.returns
returns g c =
    let within : c.picture_row-count.result ≤ length c.args.row.now = omega (arith, c.told-row, c.picture_row-count.ensures.most) in
    made-where _ _ _ _ _ _
    (λ s stands. ap (to_file c.args.path.now) (sym (row-taken _ c.args.row.now _ c.picture_row-count.result
    (c.picture_row-count.ensures.row s.picture (c.screen.ensures.screen s stands.devices)) c.picture_row-count.auto.into within)))
    c.append_to.ensures
