-- What an outside that is not there tells and counts: nothing (profile).
use Rattle.std.specs.Prelude.{false, None}
use Rattle.uxn_io_traits.specs.Room.{no_promise}
use Rattle.uxn_io_traits.specs.State.{TreeState, SinkState}
use Rattle.uxn_io_traits.specs.declared.nothing.NoSink.{NoSink}
use Rattle.uxn_io_traits.specs.declared.nothing.NoTree.{NoTree}

-- a sink that keeps nothing
abbrev pub state_of_no_sink : NoSink → SinkState
state_of_no_sink sink = record { contents = None; tally = record { faults = 0; exact = false }; guaranteed = 0 }

-- a tree in which nothing is ever there
abbrev pub state_of_no_tree : NoTree → TreeState
state_of_no_tree tree = record {
  contents = None;
  tally = record { faults = 0; exact = false };
  refused = record { count = 0; last = None };
  requests = None;
  guaranteed = no_promise;
}
