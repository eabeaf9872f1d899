-- The log of commands over a run (profile). The run is the finished list of its moments, and a command goes from index to index. The
-- debugger decides moment by moment, and goes back by what it kept.
use Rattle.std.specs.Prelude.{◌≡◌, ℕ, ◌+◌, ◌-◌, min, max, Bool, true, false, not, ◌&&◌, ◌||◌}
use Rattle.std.specs.Prelude.{◌==◌, nat_lt, nat_le, if◌then◌else◌}
use Rattle.std.specs.Prelude.{List, [], ◌++◌, take, drop, length, map, reverse, Option, Some, None, slice_get, fold}
use Rattle.std.specs.List.{position_or_len}
use Rattle.uxn_opcodes.specs.declared.Core.{Core}
use Rattle.tal_words.specs.declared.name.Label.{Label}
use Rattle.vector_loop.specs.declared.watch.Moment.{Moment}
use Rattle.vector_loop.specs.State.{State}
use Rattle.vector_loop.specs.Trace.{Trace}
use Rattle.vector_loop.specs.Watch.{Page, page_in, moment_of}
use Rattle.uxn_undo.specs.Kept.{holding}
use Rattle.uxn_undo.specs.Laws.{GivenMoments, kept_of}
use Rattle.uxn_undo.specs.Runs.{InRow}
use Rattle.uxn_debugger.specs.declared.command.DebugCommand.{DebugCommand}
use Rattle.uxn_debugger.specs.declared.command.DebugCommand.TheVariants.{Break, Delete, Run, Step, Back}
use Rattle.uxn_debugger.specs.declared.place.Place.TheVariants.{Before, End}
use Rattle.uxn_debugger.specs.Printing.{MomentView, view, printed}

-- what a watcher is shown: the machine, the 256 ports, and where the run is
pub record Shown : Type 0 where
  pub core : Core
  pub page : Page
  pub moment : Moment

-- what is shown at a state of a run
abbrev pub state_shown : State → Shown
state_shown state = record { core = state.core; page = page_in state; moment = moment_of state }

-- a moment where the run stands, with what its ports read; one that the run has gone on from, with what was stored in them; and the end
abbrev pub before : Shown → MomentView
before shown = view shown.core shown.page.read (Before shown.moment)

abbrev pub gone : Shown → MomentView
gone shown = view shown.core shown.page.stored (Before shown.moment)

abbrev pub at_end : Shown → MomentView
at_end shown = view shown.core shown.page.read (End shown.moment)

-- what is given to be kept of it
abbrev pub moment_of_shown : Shown → GivenMoments
moment_of_shown shown = record { core = shown.core; stored = shown.page.stored }

-- moments of a run and its end: each is counted by its index, and stands at the address of its machine, and memory differs from that of
-- the next one only within the bytes that are kept for it
pub record IsRegular (moments : List Shown) (end : Shown) : Type 0 where
  pub counts : (index : ℕ) (shown : Shown) → slice_get moments index ≡ Some shown → shown.moment.instructions ≡ index
  pub addresses : (index : ℕ) (shown : Shown) → slice_get moments index ≡ Some shown → shown.moment.address ≡ shown.core.at
  pub count : end.moment.instructions ≡ length moments
  pub memory : InRow (map moment_of_shown moments) end.core.memory

-- a set of addresses, and what commands make of it
abbrev pub AddressSet : Type 0
AddressSet = ℕ → Bool

abbrev pub no_breaks : AddressSet
no_breaks address = false

abbrev pub set_with_break : ℕ → AddressSet → AddressSet
set_with_break added breaks address = address == added || breaks address

abbrev pub without_break : ℕ → AddressSet → AddressSet
without_break removed breaks address = not (address == removed) && breaks address

abbrev pub breaks_after : DebugCommand → AddressSet → AddressSet
breaks_after (Break address) breaks = set_with_break address breaks
breaks_after (Delete address) breaks = without_break address breaks
breaks_after _ breaks = breaks

-- the index of the present moment, the greatest index gone to so far, the break addresses, and what was printed
pub record Stand : Type 0 where
  pub index : ℕ
  pub furthest : ℕ
  pub breaks : AddressSet
  pub log : List ℕ

abbrev pub first_stand : Stand
first_stand = record { index = 0; furthest = 0; breaks = no_breaks; log = [] }

module _ (labels : List Label) (moments : List Shown) (end : Shown) where
  -- what is observed at an index: a moment, or the end where there is none
  abbrev pub moment_observed : Bool → Shown → MomentView
  moment_observed true shown = gone shown
  moment_observed false shown = before shown

  abbrev pub observed : Bool → Option Shown → MomentView
  observed passed (Some shown) = moment_observed passed shown
  observed passed None = at_end end

  abbrev pub view_at : ℕ → ℕ → MomentView
  view_at furthest index = observed (nat_lt index furthest) (slice_get moments index)

  -- the moments before an index, the newest first, and how many of them are held there
  abbrev pub given_before : ℕ → List GivenMoments
  given_before index = reverse (take index (map moment_of_shown moments))

  abbrev pub held_before : ℕ → ℕ
  held_before index = length (holding (map kept_of (given_before index)))

  -- how many moments back one can go
  abbrev pub reach : Stand → ℕ
  reach stand = stand.index + held_before stand.furthest - stand.furthest

  -- the least greater index whose moment stands at a break address, or the end
  abbrev pub next_break : AddressSet → ℕ → ℕ
  next_break breaks index =
      min (index + 1 + position_or_len (λ shown. breaks shown.moment.address) (drop (index + 1) moments)) (length moments)

  -- `run` and `step` go on, at most to the end; `back` goes back, as far as moments are held, or not at all; all other commands stay
  abbrev pub index_after : DebugCommand → Stand → ℕ
  index_after Run stand = next_break stand.breaks stand.index
  index_after (Step count) stand = min (stand.index + count) (length moments)
  index_after (Back count) stand = if nat_le count (reach stand) then stand.index - count else stand.index
  index_after _ stand = stand.index

  -- a command is done, and prints
  abbrev pub stand_at : ℕ → ℕ → Stand → DebugCommand → Stand
  stand_at index furthest stand command = record {
    index = index;
    furthest = furthest;
    breaks = breaks_after command stand.breaks;
    log = stand.log ++ printed labels (reach stand) (view_at furthest index) command;
  }

  unfoldable pub after_command : Stand → DebugCommand → Stand
  after_command stand command =
      stand_at (index_after command stand) (max stand.furthest (index_after command stand)) stand command

  -- the log of all commands
  unfoldable pub log_of : List DebugCommand → List ℕ
  log_of commands = (fold after_command first_stand commands).log

-- the log over a whole run
unfoldable pub log_over : List Label → List DebugCommand → Trace → List ℕ
log_over labels commands trace = log_of labels (map state_shown trace.moments) (state_shown trace.last) commands
