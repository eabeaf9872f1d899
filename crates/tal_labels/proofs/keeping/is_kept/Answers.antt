use Rattle.tal_labels.proofs.Common.{bytes_at}
use Rattle.tal_labels.proofs.TableLemmas.{kept-some, kept-none}
use Rattle.tal_labels.proofs.keeping.is_kept.Goals as goal

pub returns-in-Some : goal.returns-in-Some
returns-in-Some c =
    let cases = c.in-Some.ensures.cases in
    kept-some c.args.name.now (bytes_at c.args.bytes.now c.args.kept.shared) (bytes_at c.args.bytes.now c.args.kept.rest) c.in-Some.front.now
    c.text-in-Some.result.now c.text.result.now c.eq.result c.text-in-Some.ensures c.text.ensures cases.1 cases.0 c.eq.ensures

pub returns-in-None : goal.returns-in-None
returns-in-None c =
    kept-none c.args.name.now (bytes_at c.args.bytes.now c.args.kept.shared) (bytes_at c.args.bytes.now c.args.kept.rest) c.text.result.now
    c.text.ensures c.in-None.ensures.cases
