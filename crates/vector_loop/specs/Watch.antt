-- What a watcher is shown.
use Rattle.std.specs.Prelude.{◌≡◌, ℕ, ◌<◌, List, [], ◌∷◌, length, map, slice_index}
use Rattle.std.specs.List.{range_with_len}
use Rattle.uxn_opcodes.specs.declared.Core.{Core}
use Rattle.varvara_bus.specs.History.{stored as stored_by}
use Rattle.varvara_bus.specs.ReadsPort.{read_of}
use Rattle.vector_loop.specs.declared.watch.Moment.{Moment}
use Rattle.vector_loop.specs.State.{State}

-- the 256 ports: what each of them reads, and the byte that was last stored in it
pub record Page : Type 0 where
  pub read : List ℕ
  pub stored : List ℕ

-- a page of ports that read so, and in which these bytes were last stored
pub record IsPage (reads : ℕ → ℕ → Type 0) (bytes : List ℕ) (page : Page) : Type 0 where
  pub size : length page.read ≡ 256
  pub shows : (port byte : ℕ) → port < 256 → reads port byte → byte ≡ slice_index page.read port
  pub stored_size : length page.stored ≡ 256
  pub holds : (port : ℕ) → port < 256 → slice_index bytes port ≡ slice_index page.stored port

-- what this many ports read in a state, from port 0 on, and the bytes that were last stored in them
unfoldable pub ports_read : ℕ → State → List ℕ
ports_read count state = map (read_of state.devices state.core) (range_with_len 0 count)

unfoldable pub ports_stored : ℕ → State → List ℕ
ports_stored count state = map (stored_by state.devices.history) (range_with_len 0 count)

-- all ports of a state
abbrev pub page_in : State → Page
page_in state = record { read = ports_read 256 state; stored = ports_stored 256 state }

-- the number of instructions run before, and the address of the next one
abbrev pub moment_of : State → Moment
moment_of state = record { instructions = state.tally.instructions; address = state.core.at }

-- memory may run out to a watcher: there is something that it may hold then, by what it held before
pub record MayRefuse {H : Type 0} (refuses : H → H → Type 0) : Type 0 where
  pub before : H
  pub now : H
  pub is : refuses before now

-- what is held once all these states were shown, in order
abbrev pub shown_all : {H : Type 0} → (H → Core → Page → Moment → H) → H → List State → H
shown_all shown held [] = held
shown_all shown held (state ∷ states) = shown_all shown (shown held state.core (page_in state) (moment_of state)) states
