-- What contracts see of a tree and a sink over which some calls are tried again (profile).
use Rattle.std.specs.Prelude.{false, None}
use Rattle.uxn_io_traits.specs.Faults.{FaultTally}
use Rattle.uxn_io_traits.specs.State.{TreeState, SinkState}

-- every fault is counted, also that of a call which then succeeded, and a request that is made twice is one of its own
abbrev pub not_exact : FaultTally → FaultTally
not_exact tally = record { faults = tally.faults; exact = false }

abbrev pub retried_tree : TreeState → TreeState
retried_tree tree = record {
  contents = tree.contents;
  tally = not_exact tree.tally;
  refused = tree.refused;
  requests = None;
  guaranteed = tree.guaranteed;
}

-- what was guaranteed before a fault need not be guaranteed after it
abbrev pub retried_sink : SinkState → SinkState
retried_sink sink = record { contents = sink.contents; tally = not_exact sink.tally; guaranteed = 0 }
