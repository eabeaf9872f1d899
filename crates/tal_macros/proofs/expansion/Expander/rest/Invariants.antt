use Rattle.tal_macros.proofs.Common.{◌≡◌, ◌-◌, ◌≤◌, ◌++◌, VISIT_LIMIT, given}
use Rattle.tal_macros.proofs.expansion.Expander.rest.Given as goal

abbrev pub invariant-loop-expanded : goal.invariant-loop-expanded
invariant-loop-expanded l = record {
  words : given l.initial.self ++ l.expanded.items ≡ given l.self;
  source : l.self.source ≡ l.initial.self.source;
  bound : l.self.visited ≤ VISIT_LIMIT;
}

abbrev pub decreases-loop-expanded : goal.decreases-loop-expanded
decreases-loop-expanded l = VISIT_LIMIT - l.self.visited
