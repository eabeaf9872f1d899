use Rattle.std.proofs.Common.{append_assoc}
use Rattle.std.proofs.lemmas.List.Elements.{same_from_all_zip}
use Rattle.std.proofs.lemmas.Result.{IfOk-weaker}
use Rattle.uxn_cli.proofs.task_files.refusal.numbered.Goals as goal

pub returns : goal.returns
returns c =
    let joined = rw (c.as_slice.ensures, c.as_bytes.ensures.value, c.deref.ensures.0, c.decimal-number.ensures, c.from.ensures) at c.concat.ensures.ok in
    simp append_assoc (IfOk-weaker c.concat.result _ _ (λ made copied. same_from_all_zip _ _ _ copied (λ x y is. is)) joined)
