-- What it is for a machine, its bus, a tally and a watcher to follow a trace.
use Rattle.std.specs.Prelude.{◌≡◌, ℕ, ◌+◌, ◌*◌, ◌≤◌, ◌⊎◌}
use Rattle.uxn_io_traits.specs.declared.sinks.Sink as sinks
use Rattle.uxn_io_traits.specs.declared.trees.Tree as trees
use Rattle.uxn_opcodes.specs.declared.Core.{Core}
use Rattle.uxn_opcodes.specs.declared.Stop.{Stop}
use Rattle.uxn_opcodes.specs.declared.Stop.TheVariants.{NoMemory}
use Rattle.varvara_bus.specs.declared.bus.Bus.{Bus}
use Rattle.varvara_bus.specs.State.{DeviceState}
use Rattle.varvara_bus.specs.Bus.{BusRepresents, BusModel, Makes, StopsShort, meaning_of, contents_on}
use Rattle.vector_loop.specs.declared.tally.Tally.{Tally}
use Rattle.vector_loop.specs.declared.watch.Moment.{Moment}
use Rattle.vector_loop.specs.declared.watch.Watcher as watchers
use Rattle.vector_loop.specs.State.{State}
use Rattle.vector_loop.specs.Trace.{Trace}
use Rattle.vector_loop.specs.Vector.{AreChangesAt}
use Rattle.vector_loop.specs.Folders.{TraceTakesNames}
use Rattle.vector_loop.specs.Watch.{Page, MayRefuse, page_in, moment_of, shown_all}

-- what contracts see of trees, sinks and a watcher
pub record Models (T O E W H : Type 0) : Type 1 where
  pub meaning : BusModel T O E
  pub held : W → H
  pub shown : H → Core → Page → Moment → H
  pub ended : H → Core → Page → Moment → H
  pub may_refuse : H → H → Type 0

abbrev pub models_of : {T O E W : Type 0} → trees.Ghosts T → sinks.Ghosts O → sinks.Ghosts E → (watches : watchers.Ghosts W)
    → Models T O E W watches.Held
models_of of_tree of_out of_err watches = record {
  meaning = meaning_of of_tree of_out of_err;
  held = watches.held;
  shown = watches.shown;
  ended = watches.ended;
  may_refuse = watches.may_refuse;
}

-- what takes part in a run
pub record Running (T O E W : Type 0) : Type 0 where
  pub core : Core
  pub bus : Bus T O E
  pub tally : Tally
  pub watcher : W

abbrev pub running : {T O E W : Type 0} → Core → Bus T O E → Tally → W → Running T O E W
running core bus tally watcher = record { core = core; bus = bus; tally = tally; watcher = watcher }

-- the state that it is in, where its devices represent this
abbrev pub running_state : {T O E W : Type 0} → Running T O E W → DeviceState → State
running_state now devices = record { core = now.core; devices = devices; tally = now.tally }

-- so many vectors were begun at most, each of at most so many instructions and cut at most once, and so many events
pub record HasGrown (before now : Tally) (begun given budget : ℕ) : Type 0 where
  pub instructions : now.instructions ≤ before.instructions + begun * budget
  pub vectors : now.vectors ≤ before.vectors + begun
  pub cuts : now.cuts ≤ before.cuts + begun
  pub events : now.events ≤ before.events + given
  pub frames : now.frames ≤ before.frames + given
  pub shots : now.shots ≤ before.shots + given
  pub expects : now.expects ≤ before.expects + given
  pub misses : now.misses ≤ before.misses + given
  pub later : before.instructions ≤ now.instructions

-- one expect was counted
pub record IsCompared (before now : Tally) : Type 0 where
  pub instructions : now.instructions ≡ before.instructions
  pub vectors : now.vectors ≡ before.vectors
  pub cuts : now.cuts ≡ before.cuts
  pub events : now.events ≡ before.events
  pub frames : now.frames ≡ before.frames
  pub shots : now.shots ≡ before.shots
  pub expects : now.expects ≤ before.expects + 1
  pub misses : now.misses ≤ before.misses + 1

module _ {T O E W H : Type 0} (models : Models T O E W H) where
  -- not all of a trace was done: a prefix of its changes is made, and whoever is to blame for the stop was not guaranteed to take all of
  -- them; memory ran out only to a watcher that may refuse, or where the trace takes the names of a folder
  pub record FallsShort (before now : Running T O E W) (stop : Stop) (trace : Trace) : Type 0 where
    pub made : StopsShort models.meaning before.bus now.bus stop trace.changes
    pub names : stop ≡ NoMemory → MayRefuse models.may_refuse ⊎ TraceTakesNames trace

  -- the same from each state that the bus represented
  pub record FallsShortFrom (before now : Running T O E W) (stop : Stop) (part : State → Trace) : Type 0 where
    pub from : (devices : DeviceState) → BusRepresents (contents_on models.meaning.tree) before.bus devices
        → FallsShort before now stop (part (running_state before devices))

  -- all of a trace was done: the last state is reached, the changes are made, which are those at its moments, and the watcher was shown
  -- all of these
  pub record Follows (before now : Running T O E W) (trace : Trace) : Type 0 where
    pub core : now.core ≡ trace.last.core
    pub devices : BusRepresents (contents_on models.meaning.tree) now.bus trace.last.devices
    pub tally : now.tally ≡ trace.last.tally
    pub makes : Makes models.meaning before.bus now.bus trace.changes
    pub changes : AreChangesAt trace.moments trace.changes
    pub watcher : models.held now.watcher ≡ shown_all models.shown (models.held before.watcher) trace.moments

  -- the same from each state that the bus represented
  pub record FollowsFrom (before now : Running T O E W) (part : State → Trace) : Type 0 where
    pub from : (devices : DeviceState) → BusRepresents (contents_on models.meaning.tree) before.bus devices
        → Follows before now (part (running_state before devices))

  -- all of a run was done, and then the watcher was shown its end
  pub record Ends (before now : Running T O E W) (trace : Trace) : Type 0 where
    pub watched : W
    pub follows : Follows before (record now { watcher = watched }) trace
    pub watcher : models.held now.watcher ≡ models.ended (models.held watched) trace.last.core (page_in trace.last) (moment_of trace.last)

  pub record EndsFrom (before now : Running T O E W) (part : State → Trace) : Type 0 where
    pub from : (devices : DeviceState) → BusRepresents (contents_on models.meaning.tree) before.bus devices
        → Ends before now (part (running_state before devices))
