-- What contracts see of a tree and a sink of unknown contents, promise no room, and count exactly (profile).
use Rattle.std.specs.Prelude.{ℕ, true, None}
use Rattle.uxn_io_traits.specs.Faults.{FaultTally}
use Rattle.uxn_io_traits.specs.Room.{no_promise}
use Rattle.uxn_io_traits.specs.declared.refused.RefusedFiles.{RefusedFiles}
use Rattle.uxn_io_traits.specs.State.{TreeState, SinkState}

-- so many faults, one for each call that failed
abbrev pub exactly : ℕ → FaultTally
exactly faults = record { faults = faults; exact = true }

-- a tree, with its faults and the files that it refused to create
abbrev pub unknown_tree : ℕ → RefusedFiles → TreeState
unknown_tree faults refused =
    record { contents = None; tally = exactly faults; refused = refused; requests = None; guaranteed = no_promise }

-- a sink, with its faults
abbrev pub unknown_sink : ℕ → SinkState
unknown_sink faults = record { contents = None; tally = exactly faults; guaranteed = 0 }
