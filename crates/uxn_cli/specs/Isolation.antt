-- A call depends on what it asks of a tree, and on what lies beneath the root of the program that it runs.
use Rattle.std.specs.Prelude.{◌≡◌, ℕ, ◌⊎◌, Some, Result}
use Rattle.uxn_io_traits.specs.Along.{AgreeAlong}
use Rattle.uxn_io_traits.specs.Files.{Nodes}
use Rattle.uxn_io_traits.specs.Outside.{World}
use Rattle.uxn_arguments.specs.declared.task.Task.{Task}
use Rattle.uxn_cli.specs.declared.task_files.refusal.Refusal.{Refusal}
use Rattle.uxn_cli.specs.RunJob.{root_view_in}
use Rattle.uxn_cli.specs.Verdict.{inquiry_of}
use Rattle.uxn_cli.specs.Outcome.{outcome_of, root_of_work, IsOutputOf, GivesOutcome}
use Rattle.uxn_cli.specs.Causes.{tree_verdict}
use Rattle.uxn_cli.specs.Statuses.{IsEarly}

-- another tree replies the same to what is asked; and is the same beneath the root and in the root's parent, where a program is run
pub record LookSame (requested : Result Task Refusal) (nodes other : Nodes) : Type 0 where
  pub asked : AgreeAlong nodes other (inquiry_of requested)
  pub root : root_view_in (Some nodes) (root_of_work (tree_verdict nodes requested))
      ≡ root_view_in (Some other) (root_of_work (tree_verdict nodes requested))

-- over another tree that looks the same the verdict is the same; and what the call gave is the outcome over that tree, with what lies
-- beneath the root and the outputs, unless it ended early
pub record GivesAsOn (requested : Result Task Refusal) (nodes other : Nodes) (before now : World) (answer : ℕ) : Type 0 where
  pub verdict : tree_verdict nodes requested ≡ tree_verdict other requested
  pub given : IsEarly answer ⊎ GivesOutcome (outcome_of (Some other) (tree_verdict other requested)) (record before { files = Some other })
      (root_of_work (tree_verdict other requested)) (IsOutputOf (tree_verdict other requested)) now answer
