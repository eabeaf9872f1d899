-- A sink in memory that grows (profile).
use Rattle.std.specs.Prelude.{ℕ, true, List, Some}
use Rattle.uxn_io_traits.specs.State.{SinkState}

-- what it has taken, and the faults that it has counted
pub record Growing : Type 0 where
  pub taken : List ℕ
  pub faults : ℕ

-- what it has taken is known and counts exactly, and promises nothing: each byte takes memory
abbrev pub growing_state : Growing → SinkState
growing_state sink = record { contents = Some sink.taken; tally = record { faults = sink.faults; exact = true }; guaranteed = 0 }
