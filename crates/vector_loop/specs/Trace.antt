-- What a part of a run does: one record for an instruction, a vector, an event and a whole run.
use Rattle.std.specs.Prelude.{List, [], ◌∷◌, ◌++◌}
use Rattle.uxn_io_traits.specs.Outside.{Change}
use Rattle.vector_loop.specs.State.{State}

-- the states before each instruction, those at which the run itself appends to an output, the changes made outside, each in order,
-- and the last state
pub record Trace : Type 0 where
  pub moments : List State
  pub appends : List State
  pub changes : List Change
  pub last : State

-- no instruction, and this state
abbrev pub stays : State → Trace
stays state = record { moments = []; appends = []; changes = []; last = state }

-- these changes, which the run itself appends at this state, if there are any; no instruction
abbrev pub appends_at : List Change → State → List State
appends_at [] state = []
appends_at (change ∷ changes) state = state ∷ []

abbrev pub makes : List Change → State → Trace
makes changes state = record { moments = []; appends = appends_at changes state; changes = changes; last = state }

-- a part followed by what is done from its last state on
abbrev pub followed_by : Trace → (State → Trace) → Trace
followed_by first rest = record {
  moments = first.moments ++ (rest first.last).moments;
  appends = first.appends ++ (rest first.last).appends;
  changes = first.changes ++ (rest first.last).changes;
  last = (rest first.last).last;
}
