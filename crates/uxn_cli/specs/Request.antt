-- What the words alone determine: what is requested, or a refusal whatever the tree holds (profile).
use Rattle.std.specs.Prelude.{ℕ, List, Result, Ok, Err}
use Rattle.std.specs.Option.{option_map_or}
use Rattle.uxn_arguments.specs.declared.task.Task.{Task}
use Rattle.uxn_arguments.specs.declared.words.WordFault.{WordFault}
use Rattle.uxn_arguments.specs.declared.words.WordFault.TheVariants as words
use Rattle.uxn_cli.specs.declared.task_files.refusal.Refusal.{Refusal}
use Rattle.uxn_cli.specs.declared.task_files.refusal.Refusal.TheVariants.{NotUnderstood, NoPath, NoOutput}
use Rattle.uxn_arguments.specs.Values.{then_steps}
use Rattle.uxn_arguments.specs.Words.{task_of}
use Rattle.uxn_arguments.specs.Places.{first_clash}
use Rattle.uxn_io_traits.specs.Inquiry.{result_as}

-- why words are refused: they are not legal (128), or one that names a file is no path (129)
abbrev pub word_refusal : WordFault → Refusal
word_refusal words.NotUnderstood = NotUnderstood
word_refusal (words.NoPath word) = NoPath word

-- no output clashes (135)
abbrev pub apart : Task → Result Task Refusal
apart task = option_map_or (λ path. Err (NoOutput path)) (first_clash task) (Ok task)

-- what the words alone determine: the task, or why they are refused whatever the tree holds
unfoldable pub request : List (List ℕ) → Result Task Refusal
request words = then_steps (result_as word_refusal (task_of words)) apart
