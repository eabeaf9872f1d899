-- What contracts see of a tree that tells the requests that it received.
use Rattle.std.specs.Prelude.{Bool, List, Option}
use Rattle.std.specs.Global.{Vec}
use Rattle.std.specs.Option.{option_map}
use Rattle.uxn_io_traits.specs.Ended.{TreeEnded, TreeLooked}
use Rattle.uxn_io_traits.specs.Outside.{Change}
use Rattle.uxn_io_traits.specs.declared.requests.TreeRequest.{TreeRequest}
use Rattle.uxn_io_traits.specs.State.{TreeState}

abbrev pub requests_of : Option (Vec TreeRequest) → Option (List TreeRequest)
requests_of requests = option_map (λ (all : Vec TreeRequest). all.items) requests

abbrev pub telling_tree : TreeState → Option (Vec TreeRequest) → TreeState
telling_tree tree requests = record tree { requests = requests_of requests }

-- a call of the tree within is one of it
pub looked_too : (failed : Bool) (before now : TreeState) (requests later : Option (Vec TreeRequest)) → TreeLooked failed before now
    → TreeLooked failed (telling_tree before requests) (telling_tree now later)
looked_too failed before now requests later p =
    record { contents = p.contents; counted = p.counted; refusals = p.refusals; blamed = p.blamed; left = p.left }

pub ended_too : (changes : List Change) (failed : Bool) (before now : TreeState) (requests later : Option (Vec TreeRequest))
    → TreeEnded changes failed before now
    → TreeEnded changes failed (telling_tree before requests) (telling_tree now later)
ended_too changes failed before now requests later p = record { stands = p.stands; counted = p.counted; blamed = p.blamed; left = p.left }
