-- What the words of the command line ask for (profile).
use Rattle.std.specs.Prelude.{ℕ, List, [], ◌∷◌, codes, ok_or, Result, Err}
use Rattle.text_lines.specs.Named.{Named, named, value_named}
use Rattle.uxn_arguments.specs.Choices.{values_over}
use Rattle.uxn_arguments.specs.declared.task.Task.{Task}
use Rattle.uxn_arguments.specs.declared.words.Command.{Command}
use Rattle.uxn_arguments.specs.declared.words.Command.TheVariants as command
use Rattle.uxn_arguments.specs.declared.words.WordFault.{WordFault}
use Rattle.uxn_arguments.specs.declared.words.WordFault.TheVariants.{NotUnderstood}
use Rattle.uxn_arguments.specs.Options.{choices_of, requested_task}
use Rattle.uxn_arguments.specs.Values.{then_steps}

-- the commands by their names
abbrev pub commands : Named Command
commands =
    named (codes "play") command.Play ∷ named (codes "debug") command.Debug ∷ named (codes "asm") command.Assemble ∷
    named (codes "dis") command.Disassemble ∷ named (codes "gen") command.Generate ∷ named (codes "line") command.Line ∷ []

-- the words behind the name are legal, and then all that name a file are paths
abbrev pub command_task : List (List ℕ) → Command → Result Task WordFault
command_task words command = then_steps (ok_or (values_over (choices_of command) words) NotUnderstood) (requested_task command)

-- what the words ask for
unfoldable pub task_of : List (List ℕ) → Result Task WordFault
task_of [] = Err NotUnderstood
task_of (name ∷ words) = then_steps (ok_or (value_named commands name) NotUnderstood) (command_task words)
