-- The run of a script, and its end.
use Rattle.std.specs.Prelude.{IfErr, IfOk, OnOk, Result, ◌⊎◌}
use Rattle.vector_loop.proofs.Common.{Answers, Bus, Core, Count, Err, FollowsFrom, Models, NoMemory, Ok, Page, Runner, Running, State, Stop, Tally}
use Rattle.vector_loop.proofs.Common.{Trace, ap, contents_on, inl, inr, page_in, refl, running, running_state, ◌∙◌, ◌≡◌}
use Rattle.varvara_bus.specs.Bus.{HasRoot, ReadsPort, held_page}
use Rattle.vector_loop.specs.Watch.{IsPage, MayRefuse, moment_of}
use Rattle.vector_loop.specs.Follows.{EndsFrom, FallsShortFrom}
use Rattle.vector_loop.specs.Stops.{RunStops, StopsInFrom}
use Rattle.vector_loop.specs.Answers.{Finishes, running_of}
use Rattle.vector_loop.proofs.Along.{is_page, reached}
use Rattle.vector_loop.proofs.Stopping.{run-short, falls_short_from}

module _ {T O E W H : Type 0} (models : Models T O E W H) where
  -- the end was shown, or not
  ends-run : (before now : Running T O E W) (part : State → Trace) (watcher_new : W) → FollowsFrom models before now part
      → ((page : Page) → IsPage (ReadsPort now.bus now.core) (held_page now.bus) page → models.held watcher_new
      ≡ models.ended (models.held now.watcher) now.core page (record { instructions = now.tally.instructions; address = now.core.at }))
      → EndsFrom models before (running now.core now.bus now.tally watcher_new) part
  ends-run before now part watcher_new follows shown_end = record {
    from = λ devices stands.
        let f = follows.from devices stands in
        let last = (part (running_state before devices)).last in
        record {
          watched = now.watcher;
          follows = f;
          watcher = shown_end (page_in (running_state now last.devices))
              (is_page (contents_on models.meaning.tree) now.bus (running_state now last.devices) f.devices)
              ∙ ap (λ (s : State). models.ended (models.held now.watcher) s.core (page_in s) (moment_of s))
              (reached models before now (part (running_state before devices)) f);
        };
  }

  -- what is known of a run by its answer
  pub record RunHanded (before : Running T O E W) (core : Core) (bus : Bus T O E) (watcher : W) (part : State → Trace) (result : Result Tally Stop)
      : Type 0 where
    pub ok : IfOk result (λ tally. EndsFrom models before (running core bus tally watcher) part)
    pub stopped : IfErr result (λ stop. RunStops models before core bus watcher stop part)
    pub err : IfErr result (λ stop. FallsShortFrom models before (running core bus before.tally watcher) stop part)

  stops-handed : (before : Running T O E W) (core : Core) (bus : Bus T O E) (watcher : W) (part : State → Trace) (stop : Stop)
      → RunStops models before core bus watcher stop part → RunHanded before core bus watcher part (Err stop)
  stops-handed before core bus watcher part stop stops =
      record { ok = tt; stopped = stops; err = run-short models before core bus before.tally watcher part stop stops }

  -- it stopped before its end
  pub run-stopped : {X : Type 0} (a b : Runner T O E W) (core : Core) (bus : Bus T O E) (watcher : W) (part : State → Trace) (m : Count) (stop : Stop)
      (result : Result Tally Stop) → result ≡ Err stop → running core bus b.tally watcher ≡ running_of b → Answers models {X = X} a b part m (Err stop)
      → RunHanded (running_of a) core bus watcher part result
  run-stopped a b core bus watcher part m stop result is now answers =
      rw is (stops-handed (running_of a) core bus watcher part stop (record { tally = b.tally; stops = inl (rw now answers.reaches.within) }))

  -- all of it was done, and then its end was shown to the watcher, or not
  pub run-finished : {X : Type 0} (a b c : Runner T O E W) (core : Core) (bus : Bus T O E) (watcher : W) (part : State → Trace) (m : Count) (x : X)
      (result : Result Tally Stop) → running core bus c.tally watcher ≡ running_of c → Answers models a b part m (Ok x) → Finishes models b c result
      → RunHanded (running_of a) core bus watcher part result
  run-finished a b c core bus watcher part m x result now answers finishes = by result finishes
    where
      counted : Running T O E W → Running T O E W
      counted r = record r { tally = b.tally }

      by : (result : Result Tally Stop) → Finishes models b c result → RunHanded (running_of a) core bus watcher part result
      by (Ok tally) finishes = record {
        ok = rw (finishes.tally, ap counted now, ← ap (λ r. counted (running_of r)) finishes.others)
            (ends-run (running_of a) (running_of b) part c.watcher.now answers.reaches finishes.ok);
        stopped = tt;
        err = tt;
      }
      by (Err stop) finishes = stops-handed (running_of a) core bus watcher part stop (record {
        tally = b.tally;
        stops = inr (rw (ap counted now, ← ap (λ r. counted (running_of r)) finishes.others) (record {
          here = running_of b;
          follows = answers.reaches;
          refused = record { left = finishes.refused; memory = finishes.err; core = refl; bus = refl; tally = refl };
        }));
      })

  -- what is known of a part by its answer: all of it was done, or not; memory ran out only to the watcher, or where there is a root
  pub record Handed {X : Type 0} (before now : Running T O E W) (part : State → Trace) (result : Result X Stop) : Type 0 where
    pub ok : OnOk result (FollowsFrom models before now part)
    pub err : IfErr result (λ stop. FallsShortFrom models before now stop part)
    pub stopped : IfErr result (λ stop. StopsInFrom models before now stop part)
    pub memory : IfErr result (λ stop. stop ≡ NoMemory → MayRefuse models.may_refuse ⊎ HasRoot before.bus.devices.now)

  -- what a runner answered, of what it handed back
  pub handed : {X : Type 0} (a b : Runner T O E W) (now : Running T O E W) (part : State → Trace) (m : Count) (result : Result X Stop)
      → now ≡ running_of b → Answers models a b part m result → Handed (running_of a) now part result
  handed a b now part m (Ok x) is answers = record { ok = rw is answers.reaches; err = tt; stopped = tt; memory = tt }
  handed a b now part m (Err stop) is answers =
      let stopped : StopsInFrom models (running_of a) now stop part = rw is answers.reaches.within in
      record {
        ok = tt;
        err = falls_short_from models (running_of a) now stop part stopped;
        stopped = stopped;
        memory = answers.reaches.memory;
      }
