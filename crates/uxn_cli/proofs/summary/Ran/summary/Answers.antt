use Rattle.std.proofs.Common.{◌≡◌, ◌++◌, ℕ, List, [], ap, refl, append_assoc, append-nil}
use Rattle.std.specs.Prelude.{codes, decimal}
use Rattle.uxn_cli.specs.Summary.{line, digits, summary_text}
use Rattle.uxn_cli.proofs.summary.Ran.summary.Goals as goal

-- lines in a row
in_a_row : (a b c d e f : List ℕ) → a ++ (b ++ (c ++ (d ++ (e ++ (f ++ []))))) ≡ a ++ b ++ c ++ d ++ e ++ f
in_a_row a b c d e f = simp (append_assoc, append-nil) refl

pub returns : goal.returns
unfolding summary_text
returns c =
    let ran = c.args.self.now in
    let counts =
    in_a_row (line (codes "source") (decimal ran.source)) (line (codes "rom") (decimal ran.rom)) (line (codes "instructions") (decimal ran.instructions))
    (line (codes "vectors") (decimal ran.vectors)) (line (codes "cuts") (decimal ran.cuts)) (line (codes "frames") (decimal ran.frames)) in
    rw (c.in_ok-push_count.ensures, c.in_ok-push_console.ensures, c.in_ok-push_counts.ensures, c.new-text.ensures.items, c.from.ensures)
    (ap (λ text. text ++ line (codes "console") (digits ran.console.now) ++ line (codes "exit") (decimal ran.exit)) counts)
