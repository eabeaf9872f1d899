-- What a debugger holds in the middle of a run, moment by moment. That it comes to the log of the whole run is a law.
use Rattle.std.specs.Prelude.{ℕ, zero, suc, ◌+◌, ◌-◌, ◌%◌, Bool, true, false, ◌==◌, nat_le}
use Rattle.std.specs.Prelude.{if◌then◌else◌, List, [], ◌∷◌, ◌++◌, length, take}
use Rattle.std.specs.Prelude.{Option, Some, None, is_some, ◌≡◌, drop, fold, unwrap_or, slice_get}
use Rattle.std.specs.List.{list_any}
use Rattle.uxn_opcodes.specs.declared.Core.{Core}
use Rattle.tal_words.specs.declared.name.Label.{Label}
use Rattle.vector_loop.specs.declared.watch.Moment.{Moment}
use Rattle.vector_loop.specs.Trace.{Trace}
use Rattle.vector_loop.specs.Run.{run}
use Rattle.vector_loop.specs.State.{State}
use Rattle.vector_loop.specs.Watch.{Page, page_in, moment_of, shown_all}
use Rattle.vector_loop.specs.declared.output.Outputs.{Outputs}
use Rattle.text_lines.specs.Scripts.{ScriptView}
use Rattle.uxn_undo.specs.Row.{IsMachine}
use Rattle.uxn_undo.specs.Kept.{Kept, kept_at, holding, byte_back}
use Rattle.uxn_debugger.specs.declared.command.DebugCommand.{DebugCommand}
use Rattle.uxn_debugger.specs.declared.command.DebugCommand.TheVariants.{Run, Step, Back}
use Rattle.uxn_debugger.specs.declared.debugger.Debugger.{Debugger}
use Rattle.uxn_debugger.specs.declared.place.Place.{Place}
use Rattle.uxn_debugger.specs.declared.place.Place.TheVariants.{Before, End}
use Rattle.uxn_debugger.specs.declared.place.Goal.{Goal}
use Rattle.uxn_debugger.specs.declared.place.Goal.TheVariants.{FirstMoment, MomentAfter, BreakAddress, Nothing}
use Rattle.uxn_debugger.specs.Printing.{MomentView, moment_at, place_observed, printed}
use Rattle.uxn_debugger.specs.Bits.{addresses_in}
use Rattle.uxn_debugger.specs.Log.{AddressSet, no_breaks, breaks_after, Shown, before, at_end, IsRegular, log_of, log_over}

-- the commands that are left, the labels, what it waits for, the break addresses, the log so far, whether moments are kept, and those
-- that are held, the newest first
pub record Watching : Type 0 where
  pub commands : List DebugCommand
  pub labels : List Label
  pub goal : Goal
  pub breaks : AddressSet
  pub log : List ℕ
  pub goes_back : Bool
  pub undo : List Kept

-- a command that goes back to a moment that is kept
abbrev pub is_back : DebugCommand → Bool
is_back (Back count) = true
is_back _ = false

-- nothing was shown yet; moments are kept where some command goes back
abbrev pub new_watching : List DebugCommand → List Label → Watching
new_watching commands labels = record {
  commands = commands;
  labels = labels;
  goal = FirstMoment;
  breaks = no_breaks;
  log = [];
  goes_back = list_any is_back commands;
  undo = [];
}

-- what keeps the moments then, and what it holds: without it none
abbrev pub new_undo : List DebugCommand → Option (List Kept)
new_undo commands = if list_any is_back commands then Some [] else None

abbrev pub held_in : Option (List Kept) → List Kept
held_in undo = unwrap_or undo []

-- what is observed so many moments before the one that is shown, by what is kept of them
abbrev pub observed_view : MomentView → List Kept → ℕ → Option Kept → MomentView
observed_view now held back None = now
observed_view now held back (Some kept) = record {
  working = kept.working;
  returns = kept.returns;
  byte = λ at. byte_back (take back held) (at % 65536) (now.byte at);
  page = kept.stored;
  place = Before (record { instructions = (moment_at now.place).instructions - back; address = kept.at });
}

abbrev pub observed_back : MomentView → List Kept → ℕ → MomentView
observed_back now held back = if back == 0 then now else observed_view now held back (slice_get held (back - 1))

-- the moment so many before stands at a break address; 0 is the one that is shown, and the end is none
abbrev pub stands_at_break : AddressSet → Place → Bool
stands_at_break breaks (Before moment) = breaks moment.address
stands_at_break breaks (End moment) = false

abbrev pub was_at_break : AddressSet → Option Kept → Bool
was_at_break breaks None = false
was_at_break breaks (Some kept) = breaks kept.at

abbrev pub is_stop : AddressSet → List Kept → Place → ℕ → Bool
is_stop breaks held place back =
    if back == 0 then stands_at_break breaks place else was_at_break breaks (slice_get held (back - 1))

-- the next moment at a break address behind the one that lies so far back, as far as the run was shown
unfoldable pub next_stop : AddressSet → List Kept → Place → ℕ → Option ℕ
next_stop breaks held place zero = None
next_stop breaks held place (suc less) = if is_stop breaks held place less then Some less else next_stop breaks held place less

-- how far back a command leaves one, where it waits for nothing
abbrev pub back_after : Watching → Place → ℕ → DebugCommand → ℕ
back_after held place back Run = unwrap_or (next_stop held.breaks held.undo place back) 0
back_after held place back (Step count) = back - count
back_after held place back (Back count) = if nat_le count (length held.undo - back) then back + count else back
back_after held place back _ = back

-- what a command waits for that goes on past the moment that is shown; at the end none does
abbrev pub unless_stopped : Option ℕ → Option Goal
unless_stopped None = Some BreakAddress
unless_stopped (Some stop) = None

abbrev pub goal_of : Watching → Place → ℕ → DebugCommand → Option Goal
goal_of held (Before moment) back Run = unless_stopped (next_stop held.breaks held.undo (Before moment) back)
goal_of held (Before moment) back (Step count) = if nat_le count back then None else Some (MomentAfter (count - back - 1))
goal_of _ _ _ _ = None

-- a command is done where it leaves one
abbrev pub did : MomentView → ℕ → DebugCommand → Watching → Watching
did view reach command held = record held {
  breaks = breaks_after command held.breaks;
  log = held.log ++ printed held.labels reach view command;
}

abbrev pub obeyed : MomentView → ℕ → DebugCommand → Watching → Watching
obeyed now back command held =
    did (observed_back now held.undo (back_after held now.place back command)) (length held.undo - back) command held

-- a command that goes on leaves the rest to be done later
abbrev pub unless_it_goes : Option Goal → List DebugCommand → Watching → Watching → Watching
unless_it_goes (Some goal) rest held others = record held { commands = rest; goal = goal }
unless_it_goes None rest held others = others

-- commands are done from so many moments back on, until one goes on or none is left
unfoldable pub done : MomentView → ℕ → List DebugCommand → Watching → Watching
done now back [] held = record held { commands = []; goal = Nothing }
done now back (command ∷ rest) held =
    unless_it_goes (goal_of held now.place back command) rest held
    (done now (back_after held now.place back command) rest (obeyed now back command held))

-- the place line is printed as `run` and `step` arrive, and the next commands are done
abbrev pub arrival : Goal → List Label → MomentView → List ℕ
arrival FirstMoment labels view = []
arrival _ labels view = place_observed labels view

abbrev pub with_arrival : MomentView → Watching → Watching
with_arrival view held = record held { log = held.log ++ arrival held.goal held.labels view }

unfoldable pub arrived : MomentView → Watching → Watching
arrived view held = done view 0 held.commands (with_arrival view held)

-- a moment at this address is the one that was waited for
abbrev pub is_awaited : Goal → AddressSet → ℕ → Bool
is_awaited FirstMoment breaks address = true
is_awaited (MomentAfter left) breaks address = left == 0
is_awaited BreakAddress breaks address = breaks address
is_awaited Nothing breaks address = false

-- what is waited for behind a moment that was not
abbrev pub goal_later : Goal → Goal
goal_later (MomentAfter left) = MomentAfter (left - 1)
goal_later goal = goal

-- commands are done where the moment is the one that was waited for
abbrev pub followed : Watching → Shown → Watching
followed held moment =
    if is_awaited held.goal held.breaks moment.moment.address then arrived (before moment) held
    else record held { goal = goal_later held.goal }

-- one more moment is kept, where some command goes back
abbrev pub with_kept : Shown → Watching → Watching
with_kept moment held = record held {
  undo = if held.goes_back then holding (kept_at moment.core moment.page.stored ∷ held.undo) else held.undo;
}

-- a moment is shown
unfoldable pub shown : Watching → Shown → Watching
shown held moment = with_kept moment (followed held moment)

-- the end is shown
abbrev pub is_nothing : Goal → Bool
is_nothing Nothing = true
is_nothing _ = false

unfoldable pub ended : Watching → Shown → Watching
ended held end = if is_nothing held.goal then held else arrived (at_end end) held

-- what a debugger holds, and the rest as a watcher names it
abbrev pub held_by : Debugger → Watching
held_by debugger = record {
  commands = drop debugger.next debugger.commands.items;
  labels = debugger.labels;
  goal = debugger.goal;
  breaks = addresses_in debugger.breaks.bits;
  log = debugger.log.items;
  goes_back = is_some debugger.undo;
  undo = held_in debugger.undo;
}

abbrev pub shown_of : Core → Page → Moment → Shown
shown_of core page moment = record { core = core; page = page; moment = moment }

abbrev pub after_moment : Watching → Core → Page → Moment → Watching
after_moment held core page moment = shown held (shown_of core page moment)

abbrev pub after_end : Watching → Core → Page → Moment → Watching
after_end held core page moment = ended held (shown_of core page moment)

-- when out of memory to it, it has kept no moment, and names the same labels
abbrev pub KeptNone : Watching → Watching → Type 0
KeptNone before now = (now.undo ≡ before.undo) × (now.labels ≡ before.labels)

-- a new debugger that is shown the moments of a run in order, and then its end, keeps the log of the run
abbrev pub KeepsTheLog : Type 0
KeepsTheLog = (commands : List DebugCommand) (labels : List Label) (moments : List Shown) (end : Shown) → IsRegular moments end
    → (ended (fold shown (new_watching commands labels) moments) end).log ≡ log_of labels moments end commands

-- what it holds once it was shown a whole run
abbrev pub after_run : Watching → Trace → Watching
after_run held trace = after_end (shown_all after_moment held trace.moments) trace.last.core (page_in trace.last) (moment_of trace.last)

-- the same for the run of a script, from a machine that has counted no instruction
abbrev pub KeepsTheLogOfRuns : Type 0
KeepsTheLogOfRuns = (commands : List DebugCommand) (labels : List Label) (budget : ℕ) (outputs : Outputs) (script : ScriptView) (state : State)
    → IsMachine state.core → state.tally.instructions ≡ 0
    → (after_run (new_watching commands labels) (run budget outputs script state)).log
    ≡ log_over labels commands (run budget outputs script state)
