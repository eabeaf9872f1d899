-- So many bytes of the file are in memory, and the tree was only looked at.
use Rattle.std.proofs.Common.{◌≤◌, ◌-◌, IfSome, take, false}
use Rattle.uxn_io_traits.specs.Files.{file_bytes_from}
use Rattle.uxn_io_traits.specs.Ended.{TreeLooked}
use Rattle.file_ports.specs.AnswersAction.{GivesPiece}
use Rattle.file_ports.proofs.ReadLemmas.{HasPut}
use Rattle.file_ports.proofs.reading.put_file.Given as goal

abbrev pub invariant-loop-done : goal.invariant-loop-done
invariant-loop-done g l = record {
  within : l.done ≤ l.span.count;
  contents : IfSome (g.T.Tree.state l.fn.tree).contents (λ nodes. GivesPiece (take l.done (file_bytes_from nodes l.path l.place)) l.fn.memory l.span.at l.done l.memory);
  put : HasPut l.fn.memory l.span.at l.done l.memory;
  tree : TreeLooked false (g.T.Tree.state l.fn.tree) (g.T.Tree.state l.tree);
}

abbrev pub decreases-loop-done : goal.decreases-loop-done
decreases-loop-done g l = l.span.count - l.done
