use Rattle.uxn_cli.proofs.Common.{◌≡◌, Err, Ok, ap, rules, sourced_of, inquires-stop, inquires-last}
unfoldable use Rattle.uxn_cli.proofs.Common.{program_of}
use Rattle.uxn_cli.specs.Accepted.{loaded_source}
use Rattle.uxn_cli.specs.Held.{model_of_program}
use Rattle.uxn_cli.proofs.task_files.program.accept_program.Goals as goal

pub returns-in_err-rom-clause-loads : goal.returns-in_err-rom-clause-loads
unfolding program_of
returns-in_err-rom-clause-loads g c =
    let result : c.from_residual.result ≡ Err c.in_err-rom.field-0.0 = search rules in
    rw (c.if-rom.true, result) (inquires-stop _ _ _ _ _ _ _ c.in_err-rom.ensures.text)

pub returns-in_err-source-clause-loads : goal.returns-in_err-source-clause-loads
unfolding program_of
returns-in_err-source-clause-loads g c =
    let result : c.from_residual-in_err-source.result ≡ Err c.in_err-source.field-0.0 = search rules in
    rw (c.if-rom.false, result) (inquires-stop _ _ _ _ _ _ _ c.in_err-source.ensures.source)

pub returns-in_ok-rom-clause-loads : goal.returns-in_ok-rom-clause-loads
unfolding program_of
returns-in_ok-rom-clause-loads g c = rw c.if-rom.true (inquires-last _ _ _ _ _ _ _ _ c.in_ok-rom.ensures.text (search rules))

pub returns-in_ok-source-clause-loads : goal.returns-in_ok-source-clause-loads
unfolding program_of
returns-in_ok-source-clause-loads g c =
    let loaded : loaded_source (sourced_of c.in_ok-source.source) ≡ model_of_program c.from.result = rw c.from.ensures (search rules) in
    rw c.if-rom.false (inquires-last _ _ _ _ _ _ _ _ c.in_ok-source.ensures.source (ap Ok loaded))
