-- The turns of a machine of a line, which are the steps of its run, and what they write to port 18 (profile).
use Rattle.std.specs.Prelude.{◌≡◌, ℕ, Bool, true, IsTrue, List, None, is_some}
use Rattle.std.specs.List.{list_all}
use Rattle.uxn_io_traits.specs.Outside.{put_by}
use Rattle.vector_loop.specs.declared.pending_input.PendingInput.{PendingInput}
use Rattle.vector_loop.specs.declared.output.Outputs.{Outputs}
use Rattle.vector_loop.specs.PendingInputs.{console_byte_of}
use Rattle.vector_loop.specs.Places.{Place, step}

-- a machine of a line keeps no pictures and no samples
abbrev pub no_outputs : Outputs
no_outputs = record { frames = None; samples = None }

-- the next turn
abbrev pub turn : ℕ → Place → Place
turn budget now = step budget no_outputs now

-- it is for the console, as all is that a machine of a line is given
abbrev pub is_for_console : PendingInput → Bool
is_for_console pending_input = is_some (console_byte_of pending_input)

abbrev pub IsForConsole : PendingInput → Type 0
IsForConsole pending_input = is_for_console pending_input ≡ true

abbrev pub AreForConsole : List PendingInput → Type 0
AreForConsole pending_inputs = IsTrue (list_all is_for_console pending_inputs)

-- the bytes written to port 18 so far
abbrev pub put_in : Place → List ℕ
put_in now = put_by now.done.changes
