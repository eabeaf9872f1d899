-- A stream as a sink (profile).
use Rattle.uxn_io_traits.specs.State.{SinkState}
use Rattle.uxn_io_traits.specs.Unknown.{unknown_sink}
use Rattle.uxn_io_host.specs.declared.stream.Stream.{Stream}

-- its contents are unknown, and its faults are counted
abbrev pub stream_state : {W : Type 0} → Stream W → SinkState
stream_state stream = unknown_sink stream.faults

-- what it writes to
abbrev pub written_to : {W : Type 0} → Stream W → W
written_to stream = stream.stream
