use Rattle.uxn_cli.proofs.Common.{◌≡◌, Err, rules}
use Rattle.uxn_cli.proofs.MakingLemmas.{made-there, makes-first, writes-then}
use Rattle.uxn_cli.proofs.task_files.assembling.write_outputs.Goals as goal

pub make_outputs-requires : goal.make_outputs-requires
make_outputs-requires g c = rw c.deref-2.ensures.value c.requires

pub returns-in_err-make_outputs : goal.returns-in_err-make_outputs
returns-in_err-make_outputs g c =
    let ends = rw (c.deref.ensures.value, c.deref-2.ensures.value) at c.in_err-make_outputs.ensures in
    let result : c.from_residual.result ≡ Err c.in_err-make_outputs.field-0.0 = search rules in
    rw result (makes-first c.args.written.now.outputs.items _ _ _ c.in_err-make_outputs.field-0.0 ends)

pub fill_all-requires : goal.fill_all-requires
fill_all-requires g c =
    let made = rw (c.deref.ensures.value, c.deref-2.ensures.value) at c.in_ok-make_outputs.ensures in
    rw c.deref-3.ensures.value (made-there c.args.written.now.outputs.items _ made.files)

pub returns : goal.returns
returns g c =
    let made = rw (c.deref.ensures.value, c.deref-2.ensures.value) at c.in_ok-make_outputs.ensures in
    writes-then c.args.written.now.outputs.items _ _ _ _ made c.fill_all.result (rw c.deref-3.ensures.value at c.fill_all.ensures)
