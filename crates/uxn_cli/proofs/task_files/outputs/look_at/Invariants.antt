use Rattle.uxn_cli.proofs.Common.{drop, Leads, free_outputs, paths_of}
use Rattle.uxn_cli.proofs.task_files.outputs.look_at.Given as goal

abbrev pub invariant-loop-output : goal.invariant-loop-output
invariant-loop-output g l =
    Leads (free_outputs l.included (paths_of l.outputs)) (free_outputs l.included (paths_of (drop l.output-index l.outputs))) (g.T.Tree.state l.fn.tree) (g.T.Tree.state l.tree)
