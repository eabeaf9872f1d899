-- A reader as a source.
use Rattle.std.specs.Prelude.{ℕ, ◌-◌, List, take, drop, Option}
use Rattle.std.specs.Io.KnownBytes.{prepend_known}
use Rattle.uxn_io_traits.specs.Unknown.{exactly}
use Rattle.line_source.specs.Source.{SourceState}
use Rattle.line_source.specs.declared.stream.InputStream.{InputStream}

-- the bytes that were read and are not given yet
abbrev pub held_bytes : {R : Type 0} → InputStream R → List ℕ
held_bytes source = take (source.count - source.next) (drop source.next source.chunk.items)

-- what is left are these bytes and then those of the reader, where they are known; faults are counted exactly
abbrev pub input_state : {R : Type 0} → (R → Option (List ℕ)) → InputStream R → SourceState
input_state remaining source = record { left = prepend_known (held_bytes source) (remaining source.reader); tally = exactly source.faults }
