use Rattle.uxn_cli.proofs.Common.{take, ◌≡◌, paths_of}
use Rattle.uxn_cli.proofs.task_files.making.empty_outputs.Given as goal

abbrev pub invariant-loop-path : goal.invariant-loop-path
invariant-loop-path l = paths_of l.outputs.items ≡ take l.path-index l.paths
