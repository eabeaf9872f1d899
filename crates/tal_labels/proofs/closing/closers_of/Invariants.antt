use Rattle.tal_labels.proofs.Common.{◌≡◌, ◌≤◌, length, take, drop, reverse, each, closer_of}
use Rattle.tal_labels.proofs.ClosingLemmas.{waiting_from}
use Rattle.tal_labels.proofs.closing.closers_of.Given as goal

abbrev pub invariant-loop-at : goal.invariant-loop-at
invariant-loop-at l = record {
  within : l.at ≤ length l.words;
  waiting : reverse l.waiting.items ≡ waiting_from l.source l.at (drop l.at l.words);
  closers : reverse l.closers.items ≡ each (closer_of l.source) (take l.at l.words) (drop l.at l.words);
}
