-- What a part of a run answers: it was done, or it stopped.
use Rattle.std.specs.Prelude.{◌≡◌, ℕ, ◌+◌, ◌*◌, ◌^◌, ◌<◌, ◌≤◌, ◌⊎◌}
use Rattle.std.specs.Prelude.{Option, None, Result, Ok, Err, IfOk, IfErr, OnOk, OnErr}
use Rattle.uxn_io_traits.specs.Files.{Nodes}
use Rattle.uxn_io_traits.specs.Faults.{Ledger}
use Rattle.uxn_io_traits.specs.Ended.{RefusesNone}
use Rattle.uxn_io_traits.specs.declared.trees.Tree as trees
use Rattle.uxn_opcodes.specs.declared.Core.{Core}
use Rattle.uxn_opcodes.specs.declared.Stop.{Stop}
use Rattle.uxn_opcodes.specs.declared.Stop.TheVariants.{NoMemory}
use Rattle.uxn_opcodes.specs.Ports.{result_blame}
use Rattle.varvara_bus.specs.declared.bus.Bus.{Bus}
use Rattle.varvara_bus.specs.State.{DeviceState}
use Rattle.varvara_bus.specs.Bus.{SameBorrowed, SameBus, BusRepresents, FilesStay, HasRoot, ReadsPort, held_page}
use Rattle.varvara_bus.specs.Bus.{frames_begun, bus_faults, bus_rules, contents_on}
use Rattle.vector_loop.specs.declared.output.Outputs.{Outputs}
use Rattle.vector_loop.specs.declared.runner.Runner.{Runner}
use Rattle.vector_loop.specs.declared.tally.Tally.{Tally}
use Rattle.vector_loop.specs.declared.tally.VectorEnd.{VectorEnd}
use Rattle.vector_loop.specs.declared.watch.Moment.{Moment}
use Rattle.vector_loop.specs.State.{State}
use Rattle.vector_loop.specs.Watch.{Page, IsPage, MayRefuse}
use Rattle.vector_loop.specs.Trace.{Trace}
use Rattle.vector_loop.specs.Vector.{instructions, ends_by}
use Rattle.vector_loop.specs.Budget.{RanWhole, budget_with_break, counting_run}
use Rattle.vector_loop.specs.Outputs.{OutputsThere}
use Rattle.vector_loop.specs.Follows.{Models, Running, running, running_state, FollowsFrom, HasGrown}
use Rattle.vector_loop.specs.Stops.{StopsInFrom}

-- how much a part counts at most
pub record Count : Type 0 where
  pub vectors : ℕ
  pub events : ℕ

-- nothing, so many vectors, and so many events of at most five vectors each
abbrev pub none : Count
none = record { vectors = 0; events = 0 }

abbrev pub of_vectors : ℕ → Count
of_vectors number = record { vectors = number; events = 0 }

abbrev pub of_events : ℕ → Count
of_events number = record { vectors = number * 5; events = number }

-- one count and then another
abbrev pub both_counts : Count → Count → Count
both_counts m n = record { vectors = m.vectors + n.vectors; events = m.events + n.events }

-- there is a budget, and so much more can be counted, where anything is to be
pub record HasTallyRoom (tally : Tally) (budget : ℕ) (most : Count) : Type 0 where
  pub runs : 1 ≤ budget
  pub instructions : tally.instructions + most.vectors * budget < 2 ^ 64
  pub vectors : tally.vectors + most.vectors < 2 ^ 64
  pub cuts : tally.cuts + most.vectors < 2 ^ 64
  pub events : 1 ≤ most.events → tally.events + most.events < 2 ^ 64
  pub frames : 1 ≤ most.events → tally.frames + most.events < 2 ^ 64
  pub shots : 1 ≤ most.events → tally.shots + most.events < 2 ^ 64
  pub expects : 1 ≤ most.events → tally.expects + most.events < 2 ^ 64
  pub misses : 1 ≤ most.events → tally.misses + most.events < 2 ^ 64

-- what takes part in the run of a runner
abbrev pub running_of : {T O E W : Type 0} → Runner T O E W → Running T O E W
running_of runner = running runner.core.now runner.bus.now runner.tally runner.watcher.now

-- where its run stands
abbrev pub moment_in : {T O E W : Type 0} → Runner T O E W → Moment
moment_in runner = record { instructions = runner.tally.instructions; address = runner.core.now.at }

-- each output that is requested is there
abbrev pub HasOutputs : {T O E W : Type 0} → (T → Option Nodes) → Outputs → Runner T O E W → Type 0
HasOutputs contents_of_tree outputs runner = OutputsThere outputs runner.bus.now.devices.now.root (contents_of_tree runner.bus.now.tree.now)

-- what no part of a run changes: what is borrowed, the budget, the root, which files are there outside the root part, and that without a
-- root no file is refused
pub record SameRunner {T O E W : Type 0} (of_tree : trees.Ghosts T) (before now : Runner T O E W) : Type 0 where
  pub core : now.core.ghost_name ≡ before.core.ghost_name
  pub bus : now.bus.ghost_name ≡ before.bus.ghost_name
  pub watcher : now.watcher.ghost_name ≡ before.watcher.ghost_name
  pub budget : now.budget ≡ before.budget
  pub borrowed : SameBorrowed before.bus.now now.bus.now
  pub root : now.bus.now.devices.now.root ≡ before.bus.now.devices.now.root
  pub files : FilesStay before.bus.now.devices.now.root (contents_on of_tree before.bus.now.tree.now) (contents_on of_tree now.bus.now.tree.now)
  pub refusals : before.bus.now.devices.now.root ≡ None → RefusesNone (of_tree.state before.bus.now.tree.now) (of_tree.state now.bus.now.tree.now)

module _ {T O E W H : Type 0} (models : Models T O E W H) where
  -- a part stopped within; memory ran out only to the watcher, or where there is a root
  pub record RunStopped (before now : Running T O E W) (part : State → Trace) (stop : Stop) : Type 0 where
    pub within : StopsInFrom models before now stop part
    pub memory : stop ≡ NoMemory → MayRefuse models.may_refuse ⊎ HasRoot before.bus.devices.now

  -- all of a part was done, or it stopped, by the answer
  abbrev pub ReachesResult : {X : Type 0} → Running T O E W → Running T O E W → (State → Trace) → Result X Stop → Type 0
  ReachesResult before now part (Ok _) = FollowsFrom models before now part
  ReachesResult before now part (Err stop) = RunStopped before now part stop

  -- what a runner answers that was to do a part: who is to blame counted a fault, and no more was counted than this
  pub record Answers {X : Type 0} (before now : Runner T O E W) (part : State → Trace) (most : Count) (result : Result X Stop)
      : Type 0 where
    pub reaches : ReachesResult (running_of before) (running_of now) part result
    pub ledger : Ledger (bus_faults models.meaning before.bus.now) (bus_faults models.meaning now.bus.now) (result_blame result)
    pub grown : HasGrown before.tally now.tally most.vectors most.events before.budget
    pub frames : frames_begun now.bus.now ≤ frames_begun before.bus.now + most.events
    pub same : SameRunner models.meaning.tree before now

  -- the watcher was shown the end of the run, and what was counted is answered, or it refused since out of memory; nothing else changes
  pub record Finishes (before now : Runner T O E W) (result : Result Tally Stop) : Type 0 where
    pub ok : OnOk result ((page : Page) → IsPage (ReadsPort before.bus.now before.core.now) (held_page before.bus.now) page
        → models.held now.watcher.now ≡ models.ended (models.held before.watcher.now) before.core.now page (moment_in before))
    pub tally : IfOk result (λ tally. tally ≡ before.tally)
    pub err : IfErr result (λ stop. stop ≡ NoMemory)
    pub refused : OnErr result (models.may_refuse (models.held before.watcher.now) (models.held now.watcher.now))
    pub others : record before { watcher = now.watcher } ≡ now
    pub watcher : now.watcher.ghost_name ≡ before.watcher.ghost_name

  -- what the instructions of a vector came to, so many of which ran before the last one: all of it was done and it ended as it does, or
  -- it stopped; and so many are counted as ran whole
  pub record RanTo (before : Running T O E W) (core : Core) (bus : Bus T O E) (watcher : W) (budget number : ℕ) (end : Result VectorEnd Stop)
      : Type 0 where
    pub whole : RanWhole (bus_rules models.meaning) (MayRefuse models.may_refuse) budget before.core before.bus end core bus number
    pub reaches : ReachesResult before (running core bus (counting_run end (budget_with_break end number) before.tally) watcher)
        (instructions budget) end
    pub ends : IfOk end (λ how. (devices : DeviceState) → BusRepresents (contents_on models.meaning.tree) before.bus devices
        → how ≡ ends_by budget (running_state before devices))
    pub ledger : Ledger (bus_faults models.meaning before.bus) (bus_faults models.meaning bus) (result_blame end)
    pub same : SameBus models.meaning.tree before.bus bus
