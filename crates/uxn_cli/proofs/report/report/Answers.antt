use Rattle.std.proofs.Common.{append_assoc}
use Rattle.uxn_cli.proofs.Clauses.Works.Changes.Names.{append-nil, sym, ◌∙◌, common_lines}
use Rattle.std.specs.Prelude.{codes}
use Rattle.uxn_cli.specs.RunJob.{report_line}
unfoldable use Rattle.uxn_cli.proofs.Clauses.Works.Changes.Names.{report_text}
use Rattle.uxn_cli.proofs.report.report.Goals as goal

pub returns-in-Second : goal.returns-in-Second
unfolding report_text
returns-in-Second c =
    let tally = c.args.tally.now in
    rw (c.in-Second.is, c.push_line-in-Second.ensures.line, c.push_line.ensures.line, c.common_lines-text.ensures.lines)
    (append_assoc (common_lines c.args.exit tally) (report_line (codes "expects") tally.expects) (report_line (codes "misses") tally.misses))

pub returns-in-First : goal.returns-in-First
unfolding report_text
returns-in-First c = rw c.in-First.is (c.common_lines-text.ensures.lines ∙ sym (append-nil (common_lines c.args.exit c.args.tally.now)))
