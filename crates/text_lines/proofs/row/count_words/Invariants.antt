use Rattle.std.proofs.Common.{◌≡◌, length, ◌+◌, ◌≤◌}
use Rattle.text_lines.specs.Lines.{words_of}
use Rattle.text_lines.proofs.row.count_words.Given as goal

abbrev pub invariant-loop-more : goal.invariant-loop-more
invariant-loop-more l = (l.count + length (words_of l.left) ≡ length (words_of l.line)) × (l.count + length l.left ≤ length l.line)

abbrev pub decreases-loop-more : goal.decreases-loop-more
decreases-loop-more l = length l.left
