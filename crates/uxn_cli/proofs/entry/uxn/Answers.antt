use Rattle.uxn_cli.proofs.Clauses.{rules, passes-as, has_statuses, ends_early, is_cut_short, gives_the_same, leaves_the_rest}
use Rattle.uxn_cli.proofs.entry.uxn.Goals as goal

pub returns-clause-rest : goal.returns-clause-rest
returns-clause-rest g c = let fact = leaves_the_rest _ c.status_of.ensures.comes in search (rules, fact)

pub returns-clause-statuses : goal.returns-clause-statuses
returns-clause-statuses g c = let fact = has_statuses _ c.status_of.ensures.comes in search (rules, fact)

pub returns-clause-early : goal.returns-clause-early
returns-clause-early g c = let fact = ends_early _ c.status_of.ensures.comes in search (rules, fact)

pub returns-clause-cut_off : goal.returns-clause-cut_off
returns-clause-cut_off g c = let fact = is_cut_short _ c.status_of.ensures.comes in search (rules, fact)

pub returns-clause-same : goal.returns-clause-same
returns-clause-same g c = let fact = gives_the_same _ c.status_of.ensures.comes in search (rules, fact)

-- no call of `create` that was refused is ignored
pub returns-clause-refusals : goal.returns-clause-refusals
returns-clause-refusals g c = passes-as g.T.Tree.state g.E.Sink.state _ (g.T.Tree.state c.args.tree.now) _ _ (g.E.Sink.state c.args.err.now) _ _ _
    (search rules) (search rules) c.status_of.ensures.refusals
