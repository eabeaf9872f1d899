use Rattle.std.proofs.Common.{rules, tests, ◌≡◌, ◌-◌, ℕ, List, take, drop, length, arith}
use Rattle.std.proofs.lemmas.List.{length-drop, length-take-le, take_all}
use Rattle.text_lines.proofs.Cutting.{line_is}
use Rattle.text_lines.proofs.words.line_at.Goals as goal

-- what is left behind the first so many
whole : (text : List ℕ) (n : ℕ) → take (length text - n) (drop n text) ≡ drop n text
whole text n = take_all _ (drop n text) (omega (arith, length-drop n text))

pub returns-clause-lines : goal.returns-clause-lines
returns-clause-lines c = search (rules, tests, length-take-le, line_is, whole)
