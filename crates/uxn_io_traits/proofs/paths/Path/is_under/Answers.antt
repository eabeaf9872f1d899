use Rattle.uxn_io_traits.proofs.ComponentLemmas.{under_answer}
use Rattle.uxn_io_traits.proofs.paths.Path.is_under.Goals as goal

pub returns : goal.returns
returns c =
    under_answer _ _ _ (rw (← c.bytes.ensures.text, ← c.bytes-2.ensures.text) c.continues_after.ensures)
