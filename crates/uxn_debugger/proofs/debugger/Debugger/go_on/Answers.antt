use Rattle.std.proofs.Common.{sym, rules}
use Rattle.uxn_debugger.specs.Printing.{view}
use Rattle.uxn_debugger.proofs.Obeying.{next_is, none_left, was_obeyed, went, finished}
use Rattle.uxn_debugger.proofs.debugger.Debugger.go_on.Goals as goal

pub returns-in-Some-goal_of-clause-ok : goal.returns-in-Some-goal_of-clause-ok
returns-in-Some-goal_of-clause-ok g c page is_page =
    let found = c.in-Some.ensures.lookup in
    went (view c.args.core.now page.read c.args.place) c.loop-command.back c.in-Some.command.now _ c.in-Some-goal_of.goal _ _
    (next_is _ _ _ _ c.deref.ensures.value found.3.0 found.1) (sym c.in-Some-goal_of.ensures) (c.loop-command.invariant.rest page is_page)

pub loop-command-preserved : goal.loop-command-preserved
loop-command-preserved g c =
    let found = c.in-Some.ensures.lookup in
    record {
      kept = c.loop-command.invariant.kept;
      under = c.back_after-back.ensures.held;
      rest = λ page is_page.
          was_obeyed (view c.args.core.now page.read c.args.place) c.loop-command.back _ c.in-Some.command.now _ _ _ _
          (next_is _ _ _ _ c.deref.ensures.value found.3.0 found.1) (search (rules, c.in_default-goal_of.not-Some)) c.back_after-back.ensures.back
          (search (rules, c.follow.ensures, c.in_ok-put_printed.ensures page is_page, c.held.ensures, c.back_after-back.ensures.back))
          (c.loop-command.invariant.rest page is_page);
    }

pub returns-clause-ok : goal.returns-clause-ok
returns-clause-ok g c page is_page =
    finished (view c.args.core.now page.read c.args.place) c.loop-command.back _ _ (none_left _ _ _ c.deref.ensures.value c.in_default.ensures.lookup.3)
    (c.loop-command.invariant.rest page is_page)
