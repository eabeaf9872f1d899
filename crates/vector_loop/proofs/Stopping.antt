-- Where a run stopped, of its parts one after the other.
use Rattle.vector_loop.proofs.Common.{Bus, BusRepresents, Core, DeviceState, Err, Instruction, IsOutside, List, MadeOrCut, Models, NoMemory, Option}
use Rattle.vector_loop.proofs.Common.{Running, State, Stop, Tally, Trace, [], ap, appended_to, bus_rules, contents_on, followed_by, inl, inr, arith}
use Rattle.vector_loop.proofs.Common.{instruction, makes, page_in, refl, running, running_state, stays, sym, ℕ, ◌∙◌, ◌≡◌, rules}
use Rattle.std.proofs.Common.{◌⊎◌}
use Rattle.std.proofs.lemmas.List.{append-nil}
use Rattle.std.specs.Prelude.{IfSome, Some}
use Rattle.uxn_io_traits.specs.EndedLaws.{done-nothing, ended-first, ended-then}
use Rattle.varvara_bus.specs.InstructionLaws.{instruction-cut}
use Rattle.varvara_bus.specs.Folders.{instruction-names}
use Rattle.vector_loop.specs.TraceLaws.{followed_by-again, followed_by-at, stays-after}
use Rattle.vector_loop.specs.Folders.{names-first, takes-later}
use Rattle.vector_loop.specs.Follows.{FallsShort, FallsShortFrom, Follows}
use Rattle.vector_loop.specs.Stops.{InstructionStopped, RunStops, StepStopped, StopsIn, StopsInFrom, WatcherRefused}
use Rattle.vector_loop.proofs.Along.{Watched, follows-nothing, follows-on, is_page, reached, stops-here}
use Rattle.vector_loop.proofs.Makings.{no-memory, the-stop}

-- the one, or what the other gives
or-else : {A B C : Type 0} → (B → C) → A ⊎ B → A ⊎ C
or-else = search (arith, rules)

module _ {T O E W H : Type 0} (models : Models T O E W H) where
  -- the step that stopped was within the part, whatever would follow it
  pub stopped-first : (before now : Running T O E W) (stop : Stop) (first : Trace) (rest : State → Trace)
      → StopsIn models before now stop first → StopsIn models before now stop (followed_by first rest)
  stopped-first before now stop first rest within = record {
    done = within.done;
    here = within.here;
    follows = within.follows;
    step = within.step;
    later = λ s. followed_by (within.later s) rest;
    parts = ap (λ t. followed_by t rest) within.parts
        ∙ followed_by-again within.done (λ s. followed_by within.step within.later) rest
        ∙ ap (λ t. followed_by within.done (λ s. t)) (followed_by-again within.step within.later rest);
    stopped = within.stopped;
  }

  -- a part was done, and the step was within what follows it
  stopped-on : (before middle now : Running T O E W) (stop : Stop) (first : Trace) (rest : State → Trace)
      → Follows models before middle first → StopsIn models middle now stop (rest first.last)
      → StopsIn models before now stop (followed_by first rest)
  stopped-on before middle now stop first rest one within =
      let left : State → Trace = λ s. followed_by within.step within.later in
      record {
        done = followed_by first (λ s. within.done);
        here = within.here;
        follows = follows-on models before middle within.here first within.done one within.follows;
        step = within.step;
        later = within.later;
        parts = followed_by-at first rest (λ s. followed_by within.done left) within.parts ∙ sym (followed_by-again first (λ s. within.done) left);
        stopped = within.stopped;
      }

  pub stopped-later : (before middle now : Running T O E W) (stop : Stop) (first : Trace) (rest : State → Trace)
      → Follows models before middle first → StopsInFrom models middle now stop rest
      → StopsIn models before now stop (followed_by first rest)
  stopped-later before middle now stop first rest one more =
      stopped-on before middle now stop first rest one
      (rw (reached models before middle first one) at (more.from first.last.devices one.devices))

  -- the first step of a part stopped
  stopped-here : (now after : Running T O E W) (stop : Stop) (devices : DeviceState) (step : Trace) (later : State → Trace)
      → BusRepresents (contents_on models.meaning.tree) now.bus devices → StepStopped models now after stop (running_state now devices) step
      → StopsIn models now after stop (followed_by step later)
  stopped-here now after stop devices step later stands stopped = record {
    done = stays (running_state now devices);
    here = now;
    follows = follows-nothing models now devices stands;
    step = step;
    later = later;
    parts = refl;
    stopped = stopped;
  }

  -- an instruction stopped, before which the watcher was shown the machine
  pub stopped-instruction : (now : Running T O E W) (core_new : Core) (bus_new : Bus T O E) (watcher_new : W) (stop : Stop) (later : State → Trace)
      → Watched models now watcher_new
      → Instruction (bus_rules models.meaning) now.core now.bus (Err stop) core_new bus_new
      → StopsInFrom models now (running core_new bus_new now.tally watcher_new) stop (λ s. followed_by (instruction s) later)
  stopped-instruction now core_new bus_new watcher_new stop later watched stopped = record {
    from = λ devices stands.
        let state = running_state now devices in
        stopped-here now (running core_new bus_new now.tally watcher_new) stop devices (instruction state) later stands
        (inl (
          refl,
          inr (record {
            stops = stopped;
            tally = refl;
            watcher = watched (page_in state) (is_page (contents_on models.meaning.tree) now.bus state stands);
            made = instruction-cut models.meaning now.core core_new now.bus bus_new stop devices stands stopped;
            names = λ wanted. instruction-names models.meaning now.core core_new now.bus bus_new devices stands (rw wanted at stopped);
          }),
        ));
  }

  -- the watcher refused to be shown the machine before an instruction
  pub refused-instruction : (now : Running T O E W) (watcher_new : W) (later : State → Trace)
      → models.may_refuse (models.held now.watcher) (models.held watcher_new)
      → StopsInFrom models now (running now.core now.bus now.tally watcher_new) NoMemory (λ s. followed_by (instruction s) later)
  refused-instruction now watcher_new later may = record {
    from = λ devices stands.
        stopped-here now (running now.core now.bus now.tally watcher_new) NoMemory devices (instruction (running_state now devices)) later stands
        (inl (refl, inl (record { left = may; memory = refl; core = refl; bus = refl; tally = refl })));
  }

  -- a picture or samples were not appended whole
  pub stopped-append : (now after : Running T O E W) (stop : Stop) (output : Option (List ℕ)) (bytes : DeviceState → List ℕ)
      → IfSome output (IsOutside now.bus.devices.now.root) → after.core ≡ now.core → after.tally ≡ now.tally → after.watcher ≡ now.watcher
      → MadeOrCut models.meaning now.bus after.bus (λ s. appended_to output (bytes s)) (Err stop)
      → StopsInFrom models now after stop (λ s. makes (appended_to output (bytes s.devices)) s)
  stopped-append now after stop output bytes outside core tally watcher cut = record {
    from = λ devices stands.
        let state = running_state now devices in
        let step = makes (appended_to output (bytes devices)) state in
        rw (← stays-after step)
        (stopped-here now after stop devices step stays stands
        (inr (record {
          output = output;
          bytes = bytes devices;
          appends = refl;
          some = cut.some devices stands;
          outside = outside;
          fault = the-stop (Err stop) stop refl cut.fault;
          made = cut.made devices stands;
          core = core;
          devices = cut.devices devices stands;
          tally = tally;
          watcher = watcher;
        })));
  }

  -- so not all of the trace was done
  falls-instruction : (here now : Running T O E W) (stop : Stop) (state : State)
      → WatcherRefused models here now stop ⊎ InstructionStopped models here now stop state
      → FallsShort models here now stop (instruction state)
  falls-instruction here now stop state (inl refused) = search (arith, rules, done-nothing, stops-here)
  falls-instruction here now stop state (inr stopped) = record {
    made = stopped.made;
    names = λ wanted. inr (record { before = []; moment = state; after = []; in_order = refl; takes = stopped.names wanted });
  }

  falls-at : (here now : Running T O E W) (stop : Stop) (state : State) (step : Trace) → StepStopped models here now stop state step
      → FallsShort models here now stop step
  falls-at here now stop state step (inl one) = rw one.0 (falls-instruction here now stop state one.1)
  falls-at here now stop state step (inr cut) = record { made = cut.made; names = λ wanted. absurd (no-memory stop cut.fault wanted) }

  pub falls-short : (before now : Running T O E W) (stop : Stop) (trace : Trace) → StopsIn models before now stop trace
      → FallsShort models before now stop trace
  falls-short before now stop trace within =
      let falls = falls-at within.here now stop within.done.last within.step within.stopped in
      let rest : State → Trace = λ s. followed_by within.step within.later in
      rw within.parts (record {
        made = ended-then within.done.changes (rest within.done.last).changes (Some _) _ _ _ within.follows.makes
            (ended-first within.step.changes (within.later within.step.last).changes _ _ _ falls.made);
        names = λ wanted. or-else (λ takes. takes-later within.done rest (names-first within.step within.later takes)) (falls.names wanted);
      })

  pub falls_short_from : (before now : Running T O E W) (stop : Stop) (part : State → Trace)
      → StopsInFrom models before now stop part → FallsShortFrom models before now stop part
  falls_short_from = search (arith, rules, falls-short)

  -- nor was all of a run done, whatever was counted
  pub run-short : (before : Running T O E W) (core : Core) (bus : Bus T O E) (tally : Tally) (watcher : W) (part : State → Trace) (stop : Stop)
      → RunStops models before core bus watcher stop part
      → FallsShortFrom models before (running core bus tally watcher) stop part
  run-short before core bus tally watcher part stop stops = elim stops.stops [
    | inl within ↦ record {
      from = λ devices stands.
          let short = falls-short before (running core bus stops.tally watcher) stop
          (part (running_state before devices)) (within.from devices stands) in
          record { made = short.made; names = short.names };
    }
    | inr end ↦ record {
      from = λ devices stands.
          let changes = (part (running_state before devices)).changes in
          let makes = (end.follows.from devices stands).makes in
          record {
            made = rw (end.refused.memory, end.refused.bus, ← append-nil changes)
                (stops-here models.meaning before.bus end.here.bus changes [] makes);
            names = λ wanted. inl (record { before = _; now = _; is = end.refused.left });
          };
    }
  ]
