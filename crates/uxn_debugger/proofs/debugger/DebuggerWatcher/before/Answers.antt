use Rattle.std.proofs.Common.{rules}
use Rattle.uxn_debugger.specs.Watching.{shown}
use Rattle.uxn_debugger.proofs.debugger.DebuggerWatcher.before.Goals as goal

pub returns-clause-ok : goal.returns-clause-ok
unfolding shown
returns-clause-ok g c page is_page = search (rules, c.keep.ensures page c.args.moment is_page, c.in_ok-follow.ensures.ok page is_page)
