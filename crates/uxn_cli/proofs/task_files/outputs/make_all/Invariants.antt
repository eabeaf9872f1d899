use Rattle.uxn_cli.proofs.Common.{Bool, IfSome, List, None, Option, ℕ, drop, ◌≡◌, TreeState, observed_texts, CanMake, Did}
use Rattle.uxn_cli.proofs.DidLemmas.{creates}
use Rattle.uxn_cli.proofs.task_files.outputs.make_all.Given as goal

abbrev pub invariant-loop-output : goal.invariant-loop-output
invariant-loop-output g l = record {
  rest : (failed : Bool) (refused : Option (List ℕ)) (now : TreeState) → Did (creates (drop l.output-index l.outputs)) failed refused (g.T.Tree.state l.tree) now
      → Did (creates l.outputs) failed refused (g.T.Tree.state l.fn.tree) now;
  can : IfSome (g.T.Tree.state l.tree).contents (CanMake (observed_texts (drop l.output-index l.outputs)));
  unknown : (g.T.Tree.state l.tree).contents ≡ None → (g.T.Tree.state l.fn.tree).contents ≡ None;
}
