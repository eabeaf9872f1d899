use Rattle.uxn_io_traits.proofs.ComponentLemmas.{continues_from}
use Rattle.uxn_io_traits.proofs.paths.continues_after.Goals as goal

pub returns : goal.returns
returns c =
    continues_from c.args.text.now c.args.other.now _ c.if-text-other.false c.if-text-other-ne47.false c.starts_with.ensures.value
