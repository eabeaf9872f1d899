-- Where a run stopped: what was done whole before, and the one step that was not (profile).
use Rattle.std.specs.Prelude.{◌≡◌, ◌≢◌, ℕ, List, [], ◌⊎◌, Option, IfSome, Err}
use Rattle.uxn_io_traits.specs.Files.{Nodes}
use Rattle.uxn_opcodes.specs.declared.Core.{Core}
use Rattle.uxn_opcodes.specs.declared.Stop.{Stop}
use Rattle.uxn_opcodes.specs.declared.Stop.TheVariants.{NoMemory, TreeFault}
use Rattle.uxn_opcodes.specs.Instruction.{Instruction}
use Rattle.varvara_bus.specs.declared.bus.Bus.{Bus}
use Rattle.varvara_bus.specs.State.{DeviceState, DevicesRepresent, screen_refreshed}
use Rattle.varvara_bus.specs.Bus.{BusRepresents, IsOutside, StopsShort, bus_rules, contents_on}
use Rattle.varvara_bus.specs.Folders.{InstructionTakesNames}
use Rattle.text_lines.specs.declared.script.Event.TheVariants.{Shot}
use Rattle.vector_loop.specs.declared.tally.Tally.{Tally}
use Rattle.vector_loop.specs.State.{State, counting_event}
use Rattle.vector_loop.specs.Trace.{Trace, makes, followed_by}
use Rattle.vector_loop.specs.Outputs.{appended_to}
use Rattle.vector_loop.specs.Vector.{instruction}
use Rattle.vector_loop.specs.Watch.{page_in, moment_of}
use Rattle.vector_loop.specs.Follows.{Models, Running, running, running_state, Follows, FollowsFrom}

-- a shot, whatever becomes of its picture, is counted, refreshes the screen, and else leaves the machine as it was
pub record ShotLeaves {T O E W : Type 0} (contents_of_tree : T → Option Nodes) (before now : Running T O E W) : Type 0 where
  pub core : now.core ≡ before.core
  pub devices : (devices : DeviceState) → BusRepresents contents_of_tree before.bus devices
      → DevicesRepresent now.bus.devices.now (screen_refreshed devices)
  pub tally : now.tally ≡ counting_event Shot before.tally
  pub watcher : now.watcher ≡ before.watcher

module _ {T O E W H : Type 0} (models : Models T O E W H) where
  -- the watcher refused to be shown the machine, which is as it was, and holds what it may hold then
  pub record WatcherRefused (here now : Running T O E W) (stop : Stop) : Type 0 where
    pub left : models.may_refuse (models.held here.watcher) (models.held now.watcher)
    pub memory : stop ≡ NoMemory
    pub core : now.core ≡ here.core
    pub bus : now.bus ≡ here.bus
    pub tally : now.tally ≡ here.tally

  -- the watcher was shown the machine, whose instruction then stopped at one of its writes: a prefix of its changes was made, it is not
  -- counted, and memory ran out only where it takes the names of a folder
  pub record InstructionStopped (here now : Running T O E W) (stop : Stop) (state : State) : Type 0 where
    pub stops : Instruction (bus_rules models.meaning) here.core here.bus (Err stop) now.core now.bus
    pub tally : now.tally ≡ here.tally
    pub watcher : models.held now.watcher ≡ models.shown (models.held here.watcher) state.core (page_in state) (moment_of state)
    pub made : StopsShort models.meaning here.bus now.bus stop (instruction state).changes
    pub names : stop ≡ NoMemory → InstructionTakesNames state.devices state.core

  -- the tree failed where a picture or samples, at least a byte, were appended to an output, which lies outside the root part: a prefix of
  -- them was, and the machine and its devices are as they were
  pub record AppendStopped (here now : Running T O E W) (stop : Stop) (state : State) (step : Trace) : Type 0 where
    pub output : Option (List ℕ)
    pub bytes : List ℕ
    pub appends : step ≡ makes (appended_to output bytes) state
    pub some : step.changes ≢ []
    pub outside : IfSome output (IsOutside here.bus.devices.now.root)
    pub fault : stop ≡ TreeFault
    pub made : StopsShort models.meaning here.bus now.bus stop step.changes
    pub core : now.core ≡ here.core
    pub devices : DevicesRepresent now.bus.devices.now state.devices
    pub tally : now.tally ≡ here.tally
    pub watcher : now.watcher ≡ here.watcher

  -- a step that stopped, from the state in which it began
  abbrev pub StepStopped : Running T O E W → Running T O E W → Stop → State → Trace → Type 0
  StepStopped here now stop state step =
      ((step ≡ instruction state) × (WatcherRefused here now stop ⊎ InstructionStopped here now stop state))
      ⊎ AppendStopped here now stop state step

  -- a trace stopped: all was done up to a step, by the machine as it was then, and the step stopped
  pub record StopsIn (before now : Running T O E W) (stop : Stop) (trace : Trace) : Type 0 where
    pub done : Trace
    pub here : Running T O E W
    pub follows : Follows models before here done
    pub step : Trace
    pub later : State → Trace
    pub parts : trace ≡ followed_by done (λ state. followed_by step later)
    pub stopped : StepStopped here now stop done.last step

  -- the same from each state that the bus represented
  pub record StopsInFrom (before now : Running T O E W) (stop : Stop) (part : State → Trace) : Type 0 where
    pub from : (devices : DeviceState) → BusRepresents (contents_on models.meaning.tree) before.bus devices
        → StopsIn before now stop (part (running_state before devices))

  -- all of a trace was done, and then the watcher refused to be shown the end
  pub record EndRefused (before now : Running T O E W) (stop : Stop) (part : State → Trace) : Type 0 where
    pub here : Running T O E W
    pub follows : FollowsFrom models before here part
    pub refused : WatcherRefused here now stop

  -- a run stopped in its trace or at its end, when so much was counted
  pub record RunStops (before : Running T O E W) (core : Core) (bus : Bus T O E) (watcher : W) (stop : Stop) (part : State → Trace)
      : Type 0 where
    pub tally : Tally
    pub stops : StopsInFrom before (running core bus tally watcher) stop part ⊎ EndRefused before (running core bus tally watcher) stop part
