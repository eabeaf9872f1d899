use Rattle.std.proofs.Common.{◌≡◌, ◌∷◌, ◌++◌, take}
use Rattle.std.specs.List.{flat_map}
use Rattle.play_script.specs.PlainText.{value_word}
use Rattle.play_script.proofs.printing.put_values.Given as goal

abbrev pub invariant-loop-value : goal.invariant-loop-value
invariant-loop-value l = l.text.items ≡ l.fn.text.items ++ flat_map (λ value. 32 ∷ value_word value) (take l.value-index l.values)
