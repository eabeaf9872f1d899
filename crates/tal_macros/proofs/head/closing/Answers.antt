use Rattle.std.proofs.Common.{sym, ◌∙◌}
use Rattle.tal_macros.proofs.Closing.{searches_start, searches_found, searches_more, searches_end}
use Rattle.tal_macros.proofs.head.closing.Goals as goal

pub loop-index-init : goal.loop-index-init
loop-index-init c = searches_start _ _ _ c.requires.within c.requires.opens

pub returns : goal.returns
returns c = searches_end _ _ _ c.requires.within c.requires.opens _ _ _ _ c.loop-index.invariant c.loop-index-test.false

pub loop-index-preserved : goal.loop-index-preserved
loop-index-preserved c =
    rw (c.one_if-opened.ensures, c.one_if-closed.ensures, c.opens.ensures, c.closes.ensures, c.first_head-nested.ensures, c.text-text.ensures)
    (searches_more _ _ _ c.requires.within c.requires.opens _ _ _ _ c.loop-index.invariant c.loop-index.auto.index c.loop-index-test.true
    (rw c.text-text.ensures at (sym c.ends_body.ensures ∙ c.if-ends_body.false)))

pub returns-then-ends_body : goal.returns-then-ends_body
returns-then-ends_body c =
    searches_found _ _ _ c.requires.within c.requires.opens _ _ _ _ c.loop-index.invariant c.loop-index.auto.index c.loop-index-test.true
    (rw c.text-text.ensures at (sym c.ends_body.ensures ∙ c.if-ends_body.true))
