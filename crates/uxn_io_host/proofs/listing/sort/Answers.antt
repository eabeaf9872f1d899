use Rattle.std.proofs.Common.{rules}
use Rattle.std.proofs.lemmas.Result.{on_ok_weaker}
use Rattle.uxn_io_host.proofs.Sorting.{sorted_by_name}
use Rattle.uxn_io_host.proofs.listing.sort.Goals as goal

pub returns-clause-order : goal.returns-clause-order
returns-clause-order c =
    on_ok_weaker c.sort_by.result (λ up. sorted_by_name _ up (λ a r f' k. search rules)) c.sort_by.ensures.sorted
