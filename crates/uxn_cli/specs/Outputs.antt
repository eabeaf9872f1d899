-- The files that the code writes, as texts.
use Rattle.std.specs.Prelude.{ℕ, List, map}
use Rattle.uxn_cli.specs.declared.task_files.outputs.Output.{Output}
use Rattle.uxn_cli.specs.World.{Text}

abbrev pub observed_text : Output → Text
observed_text output = record { path = output.path; bytes = output.bytes.items }

abbrev pub observed_texts : List Output → List Text
observed_texts outputs = map observed_text outputs

abbrev pub paths_of : List Output → List (List ℕ)
paths_of outputs = map (λ output. output.path) outputs
