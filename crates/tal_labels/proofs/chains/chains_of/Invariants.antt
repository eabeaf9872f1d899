use Rattle.tal_labels.proofs.Common.{◌≡◌, length, take}
use Rattle.tal_labels.specs.Chains.{AreChained}
use Rattle.tal_labels.proofs.chains.chains_of.Given as goal

abbrev pub invariant-loop-hash : goal.invariant-loop-hash
invariant-loop-hash l = record {
  chained : AreChained (take l.hash-index l.hashes) l.lasts.items l.nexts.items;
  count : length l.nexts.items ≡ l.hash-index;
  room : length l.lasts.items ≡ l.room;
}
