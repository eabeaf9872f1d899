-- A source in memory.
use Rattle.std.specs.Prelude.{true, drop, Some}
use Rattle.line_source.specs.Source.{SourceState}
use Rattle.line_source.specs.declared.memory.MemSource.{MemSource}

-- what is left of its text is known, and it counts exactly
abbrev pub source_of : MemSource → SourceState
source_of source = record { left = Some (drop source.next source.text.now); tally = record { faults = source.faults; exact = true } }
