-- The limits of setups (profile).
use Rattle.std.specs.Prelude.{ℕ, ◌≤◌, length, IfSome}
use Rattle.std.specs.List.{All}
use Rattle.uxn_limits.specs.declared.limits.TheConstants.{FEWEST_MACHINES, MOST_MACHINES, MOST_TURNS, TURNS_OF_LINE, GREATEST_BUDGET}
use Rattle.text_lines.specs.declared.setup.Turns.{Turns}
use Rattle.text_lines.specs.declared.setup_line.SetupLine.{SetupLine}
use Rattle.text_lines.specs.declared.setup_line.SetupLine.TheVariants.{Budget, Turn}
use Rattle.text_lines.specs.Setups.{SetupView, turns_in}

abbrev pub IsBudget : ℕ → Type 0
IsBudget number = (1 ≤ number) × (number ≤ GREATEST_BUDGET)

-- turns of one of so many machines
abbrev pub AreTurns : ℕ → Turns → Type 0
AreTurns machines turns = (1 ≤ turns.machine) × (turns.machine ≤ machines) × (1 ≤ turns.count) × (turns.count ≤ TURNS_OF_LINE)

-- what a line may give
abbrev pub IsWithin : SetupLine → Type 0
IsWithin (Budget number) = IsBudget number
IsWithin (Turn turns) = AreTurns MOST_MACHINES turns
IsWithin _ = Unit {0}

-- what lines may give
pub record IsGatheredSetup (so_far : SetupView) : Type 0 where
  pub most : length so_far.sources ≤ MOST_MACHINES
  pub number : IfSome so_far.budget IsBudget
  pub each : All (AreTurns (length so_far.sources)) so_far.schedule
  pub few : turns_in so_far.schedule ≤ MOST_TURNS

pub record IsSetup (all : SetupView) : Type 0 where
  pub least : FEWEST_MACHINES ≤ length all.sources
  pub within : IsGatheredSetup all
