-- What contracts see of a tree, of a sink, and of a tree with two sinks (profile).
use Rattle.std.specs.Prelude.{ℕ, List, Option}
use Rattle.uxn_io_traits.specs.Files.{Nodes}
use Rattle.uxn_io_traits.specs.Faults.{FaultTally, Counts, counts}
use Rattle.uxn_io_traits.specs.Outside.{World}
use Rattle.uxn_io_traits.specs.declared.requests.TreeRequest.{TreeRequest}
use Rattle.uxn_io_traits.specs.Room.{Room}
use Rattle.uxn_io_traits.specs.Taking.{Guaranteed, guaranteed}
use Rattle.uxn_io_traits.specs.declared.refused.RefusedFiles.{RefusedFiles}

-- a tree: its known contents, what it counts, the files that it refused to create, what it was asked, where it tells that, and what it
-- is guaranteed to do from now on
pub record TreeState : Type 0 where
  pub contents : Option Nodes
  pub tally : FaultTally
  pub refused : RefusedFiles
  pub requests : Option (List TreeRequest)
  pub guaranteed : Room

-- a sink: the bytes that it has taken, where they are known, what it counts, and how much it is guaranteed to take from now on. Fewer bytes
-- than this are taken without a fault, so 0 promises nothing
pub record SinkState : Type 0 where
  pub contents : Option (List ℕ)
  pub tally : FaultTally
  pub guaranteed : ℕ

-- a tree and two sinks, as one value
pub record Outside : Type 0 where
  pub world : World
  pub faults : Counts
  pub guaranteed : Guaranteed

abbrev pub outside : TreeState → SinkState → SinkState → Outside
outside files out err = record {
  world = record { out = out.contents; err = err.contents; files = files.contents };
  faults = counts files.tally out.tally err.tally;
  guaranteed = guaranteed files.guaranteed out.guaranteed err.guaranteed;
}
