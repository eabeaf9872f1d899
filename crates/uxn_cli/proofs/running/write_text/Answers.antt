use Rattle.uxn_cli.proofs.Clauses.Works.{false, sym, looked-ended, looked-nothing, ended-as, refuses-nothing, one-text}
use Rattle.uxn_cli.proofs.running.write_text.Goals as goal

pub returns-in-Some-clause-ended : goal.returns-in-Some-clause-ended
returns-in-Some-clause-ended g c = rw c.in-Some.is (ended-as _ _ _ _ _ (sym (one-text c.in-Some.path c.args.text.now)) c.append_all.ensures.ended)

pub returns-in-None-clause-ended : goal.returns-in-None-clause-ended
returns-in-None-clause-ended g c = rw c.in-None.is (looked-ended false _ _ (looked-nothing (g.T.Tree.state c.args.tree.now)))

pub returns-in-Some-clause-refused : goal.returns-in-Some-clause-refused
returns-in-Some-clause-refused g c = record { exact = c.append_all.ensures.ended.counted.promise; none = c.append_all.ensures.refused }

pub returns-in-None-clause-refused : goal.returns-in-None-clause-refused
returns-in-None-clause-refused g c = refuses-nothing (g.T.Tree.state c.args.tree.now)
