use Rattle.std.proofs.Common.{◌≡◌, false, take}
use Rattle.std.specs.List.{All}
use Rattle.text_lines.specs.Lines.{is_newline}
use Rattle.text_lines.proofs.words.line_len.Given as goal

abbrev pub invariant-loop-at : goal.invariant-loop-at
invariant-loop-at l = All (λ byte. is_newline byte ≡ false) (take l.at l.text)
