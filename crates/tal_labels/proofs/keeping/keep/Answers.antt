use Rattle.tal_labels.proofs.Common.{List, ℕ, ap, ◌∙◌, bytes_at}
use Rattle.std.proofs.Common.{subst}
use Rattle.std.specs.Prelude.{IfOk}
use Rattle.tal_labels.specs.NameTables.{IsAdded}
use Rattle.tal_labels.proofs.TableLemmas.{scope-whole}
use Rattle.tal_labels.proofs.keeping.keep.Goals as goal

pub returns-in-Some-clause-ok : goal.returns-in-Some-clause-ok
returns-in-Some-clause-ok c =
    let P : List ℕ → Type 0 = λ name. IfOk c.keep_rest.result (λ parts. IsAdded c.keep_rest.new.bytes.items name parts.0 parts.1) in
    let cases = c.in-Some.ensures.cases in
    let prefix = c.text.ensures ∙ ap (λ bytes. bytes_at bytes c.args.scope) c.as_slice.ensures.value in
    subst P (scope-whole c.args.bytes.now.items c.args.name.now c.in-Some.rest.now c.text.result.now c.args.scope prefix cases.0 cases.1)
    c.keep_rest.ensures.ok
