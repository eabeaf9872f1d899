use Rattle.vector_loop.proofs.Common.{Bus, BusRepresents, Change, Core, DeviceState, Err, FollowsFrom, Instruction, List, Models, NoMemory, Nodes}
use Rattle.vector_loop.proofs.Common.{None, Ok, Option, Page, Running, State, Stop, Trace, [], ap, arith, bus_rules, contents_on, followed_by}
use Rattle.vector_loop.proofs.Common.{instruction, page_in, refl, result_blame, rules, running, running_state, shown_all, stays, stored}
use Rattle.vector_loop.proofs.Common.{sym, ◌++◌, ◌∙◌, ◌≡◌, ◌≢◌}
use Rattle.std.proofs.lemmas.List.{append-nil}
use Rattle.uxn_io_traits.specs.EndedLaws.{done-nothing, ended-then}
use Rattle.std.proofs.lemmas.List.FromFn.{get_or-map-range_with_len, length-map-range_with_len}
use Rattle.uxn_opcodes.specs.declared.Turn.{Turn}
use Rattle.uxn_opcodes.specs.declared.Turn.TheVariants.{Broke as Broken, Ran}
use Rattle.uxn_opcodes.specs.Rule.{opcode_at}
use Rattle.varvara_bus.specs.ReadsPort.{read_of}
use Rattle.varvara_bus.specs.Bus.{BusModel, Makes, ReadsPort, StopsShort, held_page}
use Rattle.varvara_bus.specs.InstructionLaws.{instruction-done}
use Rattle.vector_loop.specs.State.{counting_instruction}
use Rattle.vector_loop.specs.Watch.{IsPage, ports_read, ports_stored}
use Rattle.vector_loop.specs.Follows.{Follows}
use Rattle.vector_loop.proofs.Traces.{changes-append, shown_all-append}

-- who is to blame for a stop, whatever would have been answered
pub blame-same : (X Y : Type 0) (stop : Stop) → result_blame {T = X} (Err stop) ≡ result_blame {T = Y} (Err stop)
blame-same = search (arith, rules)

-- what the ports of a bus read, and what was last stored in them
pub is_page : {T O E : Type 0} (contents_of_tree : T → Option Nodes) (bus : Bus T O E) (state : State)
    → BusRepresents contents_of_tree bus state.devices
    → IsPage (ReadsPort bus state.core) (held_page bus) (page_in state)
unfolding ports_read ports_stored
is_page contents_of_tree bus state stands = record {
  size = length-map-range_with_len (read_of state.devices state.core) 0 256;
  shows = λ port byte within reads.
      reads state.devices stands.devices
      ∙ sym (get_or-map-range_with_len (read_of state.devices state.core) 0 256 port port 0 within (omega arith));
  stored_size = length-map-range_with_len (stored state.devices.history) 0 256;
  holds = λ port within.
      stands.devices.page port
      ∙ sym (get_or-map-range_with_len (stored state.devices.history) 0 256 port port 0 within (omega arith));
}

module _ {T O E : Type 0} (meaning : BusModel T O E) where
  -- when out of memory to the watcher all was made so far, and nothing of what is to come
  pub stops-here : (before now : Bus T O E) (first more : List Change) → Makes meaning before now first
      → StopsShort meaning before now NoMemory (first ++ more)
  stops-here = search (arith, rules)

module _ {T O E W H : Type 0} (models : Models T O E W H) where
  -- nothing is done yet
  pub follows-nothing : (now : Running T O E W) (devices : DeviceState) → BusRepresents (contents_on models.meaning.tree) now.bus devices
      → Follows models now now (stays (running_state now devices))
  follows-nothing now devices stands = search (rules, done-nothing)

  -- the state that was reached is that of the machine
  pub reached : (before middle : Running T O E W) (first : Trace) → Follows models before middle first
      → running_state middle first.last.devices ≡ first.last
  reached = search (arith, rules)

  -- a part, and then another
  pub follows-on : (before middle now : Running T O E W) (first second : Trace) → Follows models before middle first
      → Follows models middle now second → Follows models before now (followed_by first (λ s. second))
  follows-on before middle now first second one then = record {
    core = then.core;
    devices = then.devices;
    tally = then.tally;
    makes = ended-then first.changes second.changes None _ _ _ one.makes then.makes;
    changes = changes-append first.moments second.moments first.changes second.changes one.changes then.changes;
    watcher = then.watcher ∙ ap (λ h. shown_all models.shown h second.moments) one.watcher
        ∙ sym (shown_all-append models.shown (models.held before.watcher) first.moments second.moments);
  }

  -- a part, and then what follows it
  pub follows-both : (before middle now : Running T O E W) (first : Trace) (rest : State → Trace)
      → Follows models before middle first → FollowsFrom models middle now rest
      → Follows models before now (followed_by first rest)
  follows-both before middle now first rest one more =
      follows-on before middle now first (rest first.last) one
      (rw (reached before middle first one) at (more.from first.last.devices one.devices))

  -- the watcher was shown the machine
  abbrev pub Watched : Running T O E W → W → Type 0
  Watched now watcher_new = (page : Page) → IsPage (ReadsPort now.bus now.core) (held_page now.bus) page
      → models.held watcher_new
      ≡ models.shown (models.held now.watcher) now.core page (record { instructions = now.tally.instructions; address = now.core.at })

  -- one instruction, before which the watcher was shown the machine
  pub follows-instruction : (now : Running T O E W) (core_new : Core) (bus_new : Bus T O E) (watcher_new : W) (turn : Turn)
      → Watched now watcher_new
      → Instruction (bus_rules models.meaning) now.core now.bus (Ok turn) core_new bus_new
      → FollowsFrom models now (running core_new bus_new (counting_instruction now.tally) watcher_new) instruction
  follows-instruction now core_new bus_new watcher_new turn watched ran = record {
    from = λ devices stands.
        let done = instruction-done models.meaning now.core core_new now.bus bus_new turn devices stands ran in
        record {
          core = done.core;
          devices = done.devices;
          tally = refl;
          makes = done.makes;
          changes = ([], ([], (sym (append-nil (instruction (running_state now devices)).changes), tt)));
          watcher = watched (page_in (running_state now devices))
              (is_page (contents_on models.meaning.tree) now.bus (running_state now devices) stands);
        };
  }

-- what the result of an instruction says of its opcode
pub not-break : {T O E : Type 0} (meaning : BusModel T O E) (core core_new : Core) (before now : Bus T O E)
    → Instruction (bus_rules meaning) core before (Ok Ran) core_new now → opcode_at core ≢ 0
unfolding Instruction
not-break meaning core core_new before now ran = ran.0

pub is-break : {T O E : Type 0} (meaning : BusModel T O E) (core core_new : Core) (before now : Bus T O E)
    → Instruction (bus_rules meaning) core before (Ok Broken) core_new now → opcode_at core ≡ 0
unfolding Instruction
is-break meaning core core_new before now ran = ran.0
