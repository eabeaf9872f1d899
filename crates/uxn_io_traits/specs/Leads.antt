-- How far an inquiry has come over a tree.
use Rattle.std.specs.Prelude.{◌≡◌, ◌⊎◌, Bool, true, false}
use Rattle.uxn_io_traits.specs.Ended.{TreeLooked}
use Rattle.uxn_io_traits.specs.State.{TreeState}
use Rattle.uxn_io_traits.specs.Question.{Question, Reply, Replied, IsBegun}
use Rattle.uxn_io_traits.specs.Inquiry.{Inquiry, Answer, Ask}

-- the tree was asked question after question, up to this rest of the inquiry, and is in this state now
pub data Reaches {A : Type 0} (rest : Inquiry A) (now : TreeState) : Inquiry A → TreeState → Type 0 where
  Here : Reaches rest now rest now
  Asked : (question : Question) (more : Reply question → Inquiry A) (reply : Reply question) (before middle : TreeState)
      → Replied question reply before middle → Reaches rest now (more reply) middle → Reaches rest now (Ask question more) before

-- an inquiry leads to a rest of it
abbrev pub Leads : {A : Type 0} → Inquiry A → Inquiry A → TreeState → TreeState → Type 0
Leads whole rest before now = Reaches rest now whole before

-- it stopped at the question that comes next
abbrev pub StopsAt : {A : Type 0} → Bool → Inquiry A → TreeState → TreeState → Type 0
StopsAt failed (Answer value) before now = ⊥
StopsAt failed (Ask question more) before now = TreeLooked failed before now × IsBegun question before now

-- the tree failed there; or memory ran out, there or before
abbrev pub StopsBy : {A : Type 0} → Bool → Inquiry A → TreeState → TreeState → Type 0
StopsBy true rest before now = StopsAt true rest before now
StopsBy false rest before now = (now ≡ before) ⊎ StopsAt false rest before now

-- an inquiry stopped on the way
pub record Stops {A : Type 0} (failed : Bool) (inquiry : Inquiry A) (before now : TreeState) : Type 0 where
  pub rest : Inquiry A
  pub middle : TreeState
  pub leads : Leads inquiry rest before middle
  pub stop : StopsBy failed rest middle now
