use Rattle.std.proofs.Common.{◌≡◌, ◌∷◌, ◌++◌, take}
use Rattle.std.specs.List.{flat_map}
use Rattle.play_script.specs.PlainText.{text_word}
use Rattle.play_script.proofs.printing.put_texts.Given as goal

abbrev pub invariant-loop-each : goal.invariant-loop-each
invariant-loop-each l = l.text.items ≡ l.fn.text.items ++ flat_map (λ each. 32 ∷ text_word each.list) (take l.each-index l.texts)
