-- The console's ports (Varvara device reference: Console).
use Rattle.std.specs.Prelude.{ℕ, List, slice_set}
use Rattle.uxn_limits.specs.declared.ports.TheConstants.{CONSOLE_READ, CONSOLE_TYPE}
use Rattle.console_port.specs.declared.EventKind.{EventKind}
use Rattle.console_port.specs.declared.EventKind.TheVariants.{Input, Argument, Spacer, End}

-- the kinds of events
abbrev pub event_byte : EventKind → ℕ
event_byte Input = 1
event_byte Argument = 2
event_byte Spacer = 3
event_byte End = 4

-- an event of the console stores its byte, and the byte of its kind
abbrev pub given : List ℕ → ℕ → ℕ → List ℕ
given page value kind = slice_set (slice_set page CONSOLE_READ value) CONSOLE_TYPE kind
