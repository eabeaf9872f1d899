use Rattle.tal_listing.specs.LabelChains.{AreChained}
use Rattle.tal_listing.proofs.chains.LabelChains.new.Given as goal

abbrev pub invariant-loop-place : goal.invariant-loop-place
invariant-loop-place l = AreChained l.labels l.place l.first.items l.next.items
