use Rattle.std.proofs.Common.{ℕ, ◌+◌, ◌-◌, ◌≤◌, length}
use Rattle.line_source.specs.Lines.{IsOneLine}
use Rattle.line_source.specs.Source.{Took}
use Rattle.line_source.proofs.lines.next_line.Given as goal

-- these bytes were taken, none of them is a newline, and there is at most one too many
pub record Begun (took plain size : Type 0) : Type 0 where
  pub is_taken : took
  pub is_plain : plain
  pub is_short : size

abbrev pub invariant-loop-source : goal.invariant-loop-source
invariant-loop-source g l =
    Begun (Took l.line.items (g.S.Source.state l.initial.source) (g.S.Source.state l.source)) (IsOneLine l.line.items)
    (length l.line.items ≤ l.most + 1)

abbrev pub decreases-loop-source : goal.decreases-loop-source
decreases-loop-source g l = l.most + 1 - length l.line.items
