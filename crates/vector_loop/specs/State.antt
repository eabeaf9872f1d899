-- A machine in the middle of a run.
use Rattle.std.specs.Prelude.{◌+◌, ◌==◌, Bool, true, false, not, List}
use Rattle.uxn_limits.specs.declared.ports.TheConstants.{SYSTEM_STATE}
use Rattle.uxn_opcodes.specs.declared.Core.{Core}
use Rattle.varvara_bus.specs.History.{Store, stored}
use Rattle.varvara_bus.specs.State.{DeviceState, storing, next_frame, rendered, screen_refreshed}
use Rattle.text_lines.specs.declared.script.Event.{Event}
use Rattle.text_lines.specs.declared.script.Event.TheVariants.{Frame, Shot}
use Rattle.vector_loop.specs.declared.tally.Tally.{Tally}

-- the core, what the devices represent, and what was counted so far
pub record State : Type 0 where
  pub core : Core
  pub devices : DeviceState
  pub tally : Tally

-- nothing is counted yet
abbrev pub new_tally : Tally
new_tally = record { instructions = 0; vectors = 0; cuts = 0; events = 0; frames = 0; shots = 0; expects = 0; misses = 0 }

-- bytes are stored in ports, a frame begins, its samples are rendered, and the screen is refreshed
abbrev pub with_stored : List Store → State → State
with_stored stores state = record state { devices = storing stores state.devices }

abbrev pub with_next_frame : State → State
with_next_frame state = record state { devices = next_frame state.devices }

abbrev pub with_rendered : State → State
with_rendered state = record state { devices = rendered state.devices }

abbrev pub with_refreshed : State → State
with_refreshed state = record state { devices = screen_refreshed state.devices }

-- the byte in the port of the state is not 0, which ends the run
abbrev pub is_over : State → Bool
is_over state = not (stored state.devices.history SYSTEM_STATE == 0)

-- one more is counted
abbrev pub counting_instruction : Tally → Tally
counting_instruction tally = record tally { instructions = tally.instructions + 1 }

abbrev pub counting_vector : Tally → Tally
counting_vector tally = record tally { vectors = tally.vectors + 1 }

abbrev pub counting_cut : Tally → Tally
counting_cut tally = record tally { cuts = tally.cuts + 1 }

-- an event of a script is counted as it begins, and so is a frame or a shot
abbrev pub counting_event : Event → Tally → Tally
counting_event Frame tally = record tally { events = tally.events + 1; frames = tally.frames + 1 }
counting_event Shot tally = record tally { events = tally.events + 1; shots = tally.shots + 1 }
counting_event _ tally = record tally { events = tally.events + 1 }

-- an expect is counted, and a miss where the port does not read the byte
abbrev pub counting_expect : Bool → Tally → Tally
counting_expect true tally = record tally { expects = tally.expects + 1 }
counting_expect false tally = record tally { expects = tally.expects + 1; misses = tally.misses + 1 }

abbrev pub with_counted : Event → State → State
with_counted event state = record state { tally = counting_event event state.tally }
