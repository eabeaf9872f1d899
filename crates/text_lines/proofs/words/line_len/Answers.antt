use Rattle.std.proofs.Common.{◌≡◌, false, rules, tests}
use Rattle.std.proofs.lemmas.List.Elements.{All-more}
use Rattle.text_lines.specs.Lines.{is_newline}
use Rattle.text_lines.proofs.words.line_len.Goals as goal

pub loop-at-preserved : goal.loop-at-preserved
loop-at-preserved c =
    All-more (λ byte. is_newline byte ≡ false) c.args.text.now c.loop-at.at 0 c.loop-at-test.true c.loop-at.invariant (search (rules, tests))
