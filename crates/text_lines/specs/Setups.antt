-- What a setup is: what its lines give, or its first faulty line (profile).
use Rattle.std.specs.Prelude.{ℕ, ◌+◌, is_some, nat_lt, if◌then◌else◌, List, [], ◌∷◌, length, slice_get}
use Rattle.std.specs.Prelude.{Option, Some, Result, Ok, Err}
use Rattle.std.specs.List.{flat_map, sum_by}
use Rattle.uxn_limits.specs.declared.limits.TheConstants.{TEXT_LIMIT, FEWEST_MACHINES, MOST_MACHINES, MOST_TURNS}
use Rattle.text_lines.specs.Reading.{fault_if, text_by}
use Rattle.text_lines.specs.declared.setup.SetupKind.{SetupKind}
use Rattle.text_lines.specs.declared.setup.SetupKind.TheVariants.{Twice, ManyMachines, NoMachine, ManyTurns, FewMachines, LongSetup}
use Rattle.text_lines.specs.declared.setup.Turns.{Turns}
use Rattle.text_lines.specs.declared.setup_line.SetupLine.{SetupLine}
use Rattle.text_lines.specs.declared.setup_line.SetupLine.TheVariants.{Machine, Script, Budget, Turn}
use Rattle.text_lines.specs.SetupLines.{setup_line_of}

-- what contracts see of a setup: the paths of the machines' sources, that of the script where one is given, the budget where one is
-- given, and who gets turns
pub record SetupView : Type 0 where
  pub sources : List (List ℕ)
  pub script : Option (List ℕ)
  pub budget : Option ℕ
  pub schedule : List Turns

abbrev pub of_parts : List (List ℕ) → Option (List ℕ) → Option ℕ → List Turns → SetupView
of_parts paths path number turns = record { sources = paths; script = path; budget = number; schedule = turns }

-- how many turns these are
abbrev pub turns_in : List Turns → ℕ
turns_in each = sum_by (λ turns. turns.count) each

-- what a line gives
abbrev pub sources_in : SetupLine → List (List ℕ)
sources_in (Machine path) = path ∷ []
sources_in _ = []

abbrev pub scripts_in : SetupLine → List (List ℕ)
scripts_in (Script path) = path ∷ []
scripts_in _ = []

abbrev pub budgets_in : SetupLine → List ℕ
budgets_in (Budget number) = number ∷ []
budgets_in _ = []

abbrev pub schedule_in : SetupLine → List Turns
schedule_in (Turn turns) = turns ∷ []
schedule_in _ = []

-- what lines give, in order
abbrev pub setup_from : List SetupLine → SetupView
setup_from lines = record {
  sources = flat_map sources_in lines;
  script = slice_get (flat_map scripts_in lines) 0;
  budget = slice_get (flat_map budgets_in lines) 0;
  schedule = flat_map schedule_in lines;
}

-- what is wrong with a line behind those that gave this: too many machines, a second `script` or `budget`, turns of no machine that is
-- there, or too many turns
abbrev pub setup_gathering_fault : SetupView → SetupLine → Option SetupKind
setup_gathering_fault before (Machine path) = fault_if (nat_lt MOST_MACHINES (length before.sources + 1)) ManyMachines
setup_gathering_fault before (Script path) = fault_if (is_some before.script) Twice
setup_gathering_fault before (Budget number) = fault_if (is_some before.budget) Twice
setup_gathering_fault before (Turn turns) =
    if nat_lt (length before.sources) turns.machine then Some NoMachine
    else fault_if (nat_lt MOST_TURNS (turns_in before.schedule + turns.count)) ManyTurns

abbrev pub setup_fault : List SetupLine → SetupLine → Option SetupKind
setup_fault before line = setup_gathering_fault (setup_from before) line

-- the setup of lines without a fault, which give enough machines
abbrev pub setup_by : Result (List SetupLine) (ℕ × SetupKind) → Result SetupView (ℕ × SetupKind)
setup_by (Ok lines) = if nat_lt (length (setup_from lines).sources) FEWEST_MACHINES then Err (1, FewMachines) else Ok (setup_from lines)
setup_by (Err fault) = Err fault

-- the setup of a text, or its first faulty line and the first fault there
unfoldable pub setup_of : List ℕ → Result SetupView (ℕ × SetupKind)
setup_of text = setup_by (text_by TEXT_LIMIT LongSetup setup_fault setup_line_of text)
