use Rattle.std.proofs.Common.{rules}
use Rattle.tal_include.proofs.TildeLemmas.{not_spliced}
use Rattle.tal_include.proofs.splicing.words_to_splice.Goals as goal

pub returns-then-not-contains-clause-spliced : goal.returns-then-not-contains-clause-spliced
returns-then-not-contains-clause-spliced c = not_spliced _ (search rules)
