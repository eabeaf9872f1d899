use Rattle.std.proofs.Common.{◌≡◌, rules}
use Rattle.std.proofs.lemmas.List.Elements.{All-more}
use Rattle.text_lines.specs.Lines.{is_blank}
use Rattle.text_lines.proofs.words.prefix.Goals as goal

pub loop-at-preserved : goal.loop-at-preserved
loop-at-preserved c =
    All-more (λ byte. is_blank byte ≡ c.args.blank) c.args.line.now c.loop-at.at 0 c.loop-at-test.true c.loop-at.invariant (search rules)
