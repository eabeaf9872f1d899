-- What was read is a prefix of the file, where the contents are known, and within the limit.
use Rattle.std.proofs.Common.{length, ◌-◌, ◌≡◌, ◌≤◌, vec_len, IfSome, false}
use Rattle.uxn_io_traits.specs.Ended.{TreeLooked}
use Rattle.uxn_io_traits.specs.Files.{file_bytes_from}
use Rattle.uxn_io_traits.specs.Requests.{Receives}
use Rattle.uxn_io_traits.specs.RequestLaws.{reads_begun}
use Rattle.uxn_io_traits.proofs.ReadLemmas.{IsPrefix}
use Rattle.uxn_io_traits.proofs.trees.read_within.Given as goal

abbrev pub invariant-loop-bytes : goal.invariant-loop-bytes
invariant-loop-bytes g l = record {
  looked : TreeLooked false (g.T.Tree.state l.fn.tree) (g.T.Tree.state l.tree);
  within : vec_len l.bytes ≤ l.limit;
  prefix : IfSome (g.T.Tree.state l.fn.tree).contents (λ nodes. IsPrefix l.bytes.items (file_bytes_from nodes l.path 0));
  requests : Receives (reads_begun l.path (vec_len l.bytes)) (g.T.Tree.state l.fn.tree).requests (g.T.Tree.state l.tree).requests;
  size : length l.chunk ≡ 4096;
}

abbrev pub decreases-loop-bytes : goal.decreases-loop-bytes
decreases-loop-bytes g l = l.limit - vec_len l.bytes
