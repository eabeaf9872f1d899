use Rattle.uxn_cli.proofs.Common.{◌≡◌, Err, rules, sourced_of, inquires-stop, inquires-more, inquires-as}
unfoldable use Rattle.uxn_cli.proofs.Common.{source_of, source_inquiry}
use Rattle.uxn_cli.specs.declared.task_files.refusal.Refusal.TheVariants.{Faulty}
use Rattle.uxn_cli.proofs.task_files.sources.accept_source.Goals as goal

pub returns-in_err-text-clause-source : goal.returns-in_err-text-clause-source
unfolding source_of
returns-in_err-text-clause-source g c =
    let result : c.from_residual.result ≡ Err c.in_err-text.field-0.0 = search rules in
    rw result (inquires-stop _ _ _ _ _ _ _ c.in_err-text.ensures.text)

pub returns-clause-source : goal.returns-clause-source
unfolding source_of
returns-clause-source g c =
    let said = c.read_source.result in
    rw c.as_faulty.ensures (inquires-more _ _ _ _ _ _ _ _ _ c.in_ok-text.ensures.text
    (inquires-as Faulty sourced_of _ _ _ said c.read_source.ensures.answer))
