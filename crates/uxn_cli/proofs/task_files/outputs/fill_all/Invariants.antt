use Rattle.uxn_cli.proofs.Common.{Bool, IfSome, None, drop, TreeState, observed_texts, AreFiles, Did}
use Rattle.uxn_cli.proofs.DidLemmas.{fills}
use Rattle.uxn_cli.proofs.task_files.outputs.fill_all.Given as goal

abbrev pub invariant-loop-output : goal.invariant-loop-output
invariant-loop-output g l = record {
  rest : (failed : Bool) (now : TreeState) → Did (fills (drop l.output-index l.outputs)) failed None (g.T.Tree.state l.tree) now
      → Did (fills l.outputs) failed None (g.T.Tree.state l.fn.tree) now;
  files : IfSome (g.T.Tree.state l.tree).contents (AreFiles (observed_texts (drop l.output-index l.outputs)));
}
