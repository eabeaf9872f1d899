use Rattle.uxn_cli.proofs.Common.{◌≡◌, Err, rules}
use Rattle.uxn_cli.specs.Blame.{halt_of_inquiry}
use Rattle.uxn_cli.proofs.MakingLemmas.{looks-ended, can_make, makes-outputs}
use Rattle.uxn_cli.proofs.task_files.making.make_outputs.Goals as goal

pub returns-in_err-look_at : goal.returns-in_err-look_at
returns-in_err-look_at g c =
    let result : c.from_residual.result ≡ Err (halt_of_inquiry c.in_err-look_at.field-0.0) = search rules in
    rw result (looks-ended _ _ _ _ _ c.in_err-look_at.field-0.0 c.in_err-look_at.ensures)

pub make_all-requires : goal.make_all-requires
make_all-requires g c = can_make c.args.outputs.now c.requires _ _ _ c.in_ok-look_at.ensures

pub returns : goal.returns
returns g c = makes-outputs c.args.outputs.now c.requires _ _ _ c.in_ok-look_at.ensures _ c.make_all.result c.make_all.ensures
