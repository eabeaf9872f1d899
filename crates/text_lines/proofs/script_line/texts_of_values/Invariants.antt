use Rattle.std.proofs.Common.{◌≡◌, ◌+◌, ◌++◌, ◌<◌, ◌≤◌, length}
use Rattle.std.specs.List.{All, sum_by}
use Rattle.std.specs.Option.{option_map}
use Rattle.text_lines.specs.Lines.{words_of}
use Rattle.text_lines.specs.ScriptHeld.{bytes_in}
use Rattle.text_lines.specs.ScriptValues.{texts_of_values}
use Rattle.text_lines.proofs.script_line.texts_of_values.Given as goal

abbrev pub invariant-loop-word : goal.invariant-loop-word
invariant-loop-word l = record {
  collected : option_map (λ texts. bytes_in l.texts.items ++ texts) (texts_of_values (words_of l.left)) ≡ texts_of_values (words_of l.fn.values);
  short : sum_by (λ text. length text + 1) (bytes_in l.texts.items) + length l.left ≤ length l.fn.values;
  bytes : All (All (λ byte. byte < 256)) (bytes_in l.texts.items);
}

abbrev pub decreases-loop-word : goal.decreases-loop-word
decreases-loop-word l = length l.left
