use Rattle.std.proofs.Common.{sym, ◌∙◌, arith}
use Rattle.tal_words.proofs.Runs.{run_length-blank, run_length-more, run_length-end}
use Rattle.tal_words.proofs.text.run_end.Goals as goal

pub returns-then-is_blank-clause-end : goal.returns-then-is_blank-clause-end
returns-then-is_blank-clause-end c =
    omega (arith, c.loop-at.invariant, run_length-blank c.args.source.now c.loop-at.at c.loop-at-test.true (sym c.is_blank.ensures ∙ c.if-is_blank.true))

pub loop-at-preserved : goal.loop-at-preserved
loop-at-preserved c =
    omega (arith, c.loop-at.invariant, run_length-more c.args.source.now c.loop-at.at c.loop-at-test.true (sym c.is_blank.ensures ∙ c.if-is_blank.false))

pub returns-clause-end : goal.returns-clause-end
returns-clause-end c = omega (arith, c.loop-at.invariant, run_length-end c.args.source.now c.loop-at.at c.loop-at-test.false)
