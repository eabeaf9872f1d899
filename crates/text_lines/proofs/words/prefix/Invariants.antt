use Rattle.std.proofs.Common.{◌≡◌, take}
use Rattle.std.specs.List.{All}
use Rattle.text_lines.specs.Lines.{is_blank}
use Rattle.text_lines.proofs.words.prefix.Given as goal

abbrev pub invariant-loop-at : goal.invariant-loop-at
invariant-loop-at l = All (λ byte. is_blank byte ≡ l.blank) (take l.at l.line)
