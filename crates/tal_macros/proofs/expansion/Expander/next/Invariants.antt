use Rattle.tal_macros.proofs.Common.{◌≡◌, Follows, to_go}
use Rattle.tal_macros.proofs.expansion.Expander.next.Given as goal

abbrev pub invariant-loop-word : goal.invariant-loop-word
invariant-loop-word l = record {
  follows : Follows l.self-inside.source.now l.self-inside.words.now l.self-inside.visited l.self-inside.pass;
  kept : record { source = l.self-inside.source.now; visited = l.self-inside.visited } ≡ l.fn.self;
}

abbrev pub decreases-loop-word : goal.decreases-loop-word
decreases-loop-word l = to_go l.self-inside.source.now l.self-inside.words.now l.self-inside.pass
