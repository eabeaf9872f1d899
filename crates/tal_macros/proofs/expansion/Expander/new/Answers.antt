use Rattle.tal_macros.proofs.Common.{refl, left}
use Rattle.tal_macros.proofs.FollowLemmas.{follows-start}
use Rattle.tal_macros.proofs.expansion.Expander.new.Goals as goal

pub invariant_of-result : goal.invariant_of-result
unfolding left
invariant_of-result c =
    follows-start c.args.source.now c.args.words.now c.new.result
    (rw (c.new.ensures.macros, c.new.ensures.place, c.new.ensures.body, c.new.ensures.outer, c.new.ensures.count) refl)
    c.new.ensures.count c.requires
